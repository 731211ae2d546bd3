-- The order of keys.
use Rattle.std.specs.Prelude.{ℕ, List, ◌∷◌}
use Rattle.std.specs.declared.cmp.Ordering.{Ordering}
use Rattle.std.specs.Ordering.{nat_cmp}
use Rattle.std.specs.Cmp.Lexicographic.{slice_cmp}

-- keys compare by the numbers of their kinds, and those of one kind by their texts, byte by byte
abbrev pub key_cmp : ℕ → List ℕ → ℕ → List ℕ → Ordering
key_cmp j xs k ys = slice_cmp nat_cmp (j ∷ xs) (k ∷ ys)

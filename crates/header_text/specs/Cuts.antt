-- How bytes are cut in two at a byte.
use Rattle.std.specs.Prelude.{ℕ, true, false, ◌==◌, List, [], ◌∷◌, Option, None, Some, option_map}

-- what is before the first byte c and what is after it, if there is one
abbrev pub cut_at : ℕ → List ℕ → Option (List ℕ × List ℕ)
cut_at c [] = None
cut_at c (b ∷ bs) = elim (b == c) [
  | true ↦ Some ([], bs)
  | false ↦ option_map (λ parts. (b ∷ parts.0, parts.1))
      (cut_at c bs)
]

-- Which pairs of a key and a message are among some keys.
use Rattle.std.specs.Prelude.{◌≡◌, ◌⊎◌, ℕ, List, [], ◌∷◌}
use Rattle.mail_index.specs.declared.kind.Kind.{Kind}
use Rattle.mail_index.specs.Tables.{Key}

-- m is one of the numbers
abbrev pub IsIn : List ℕ → ℕ → Type 0
IsIn [] m = ⊥
IsIn (n ∷ ns) m = (n ≡ m) ⊎ IsIn ns m

-- a key of this kind and this text has this number
abbrev pub HasPosting : List Key → Kind → List ℕ → ℕ → Type 0
HasPosting [] kind text n = ⊥
HasPosting (k ∷ ks) kind text n = ((k.kind ≡ kind) × (k.text ≡ text) × IsIn k.numbers n) ⊎ HasPosting ks kind text n

-- Cutting a text at a byte, and taking bytes off its ends.
use Rattle.std.specs.Prelude.{ℕ, ◌==◌, Bool, not, List, [], ◌∷◌, length, Option, Some, None, if◌then◌else◌, option_map}

-- whether b is the byte c
abbrev pub is_byte : ℕ → ℕ → Bool
is_byte c b = b == c

-- the text before the first such byte and the text after it, if there is one
abbrev pub texts_around : ℕ → List ℕ → Option (List ℕ × List ℕ)
texts_around c [] = None
texts_around c (b ∷ bs) =
    if b == c then Some ([], bs) else option_map (λ (p : List ℕ × List ℕ). (b ∷ p.0, p.1)) (texts_around c bs)

-- the text after its first byte, if that byte is c
abbrev pub without_first : ℕ → List ℕ → Option (List ℕ)
without_first c [] = None
without_first c (b ∷ bs) = if b == c then Some bs else None

-- the text before its last byte, if that byte is c
abbrev pub without_last : ℕ → List ℕ → Option (List ℕ)
without_last c [] = None
without_last c (b ∷ []) = if b == c then Some [] else None
without_last c (b ∷ d ∷ bs) = option_map (λ (front : List ℕ). b ∷ front) (without_last c (d ∷ bs))

-- the text between a `<` at the front and a `>` at the end; without both, the whole text
abbrev pub without_angles : List ℕ → List ℕ
without_angles text = elim (without_first 0x3C text) [
  | None ↦ text
  | Some after ↦ elim (without_last 0x3E after) [ None ↦ text | Some inside ↦ inside ]
]

-- whether a text has a byte
abbrev pub is_nonempty : List ℕ → Bool
is_nonempty text = not (length text == 0)

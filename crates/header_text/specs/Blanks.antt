-- Bytes without spaces and tabs, and how bytes are split where a test ends.
use Rattle.std.specs.Prelude.{ℕ, Bool, true, false, List, [], ◌∷◌, reverse}
use Rattle.contract_words.specs.Blanks.{is_blank}

-- the bytes at the front that pass, and what follows them
abbrev pub split_while : (ℕ → Bool) → List ℕ → List ℕ × List ℕ
split_while p [] = ([], [])
split_while p (b ∷ bs) = elim (p b) [
  | true ↦ let rest = split_while p bs
      in (b ∷ rest.0, rest.1)
  | false ↦ ([], b ∷ bs)
]

-- the bytes after the spaces and tabs at the front
abbrev pub after_blanks : List ℕ → List ℕ
after_blanks [] = []
after_blanks (b ∷ bs) = elim (is_blank b) [ true ↦ after_blanks bs | false ↦ b ∷ bs ]

-- the bytes before the spaces and tabs at the end
unfoldable pub before_blanks : List ℕ → List ℕ
before_blanks bs = reverse (after_blanks (reverse bs))

-- the bytes without the spaces and tabs at both ends
abbrev pub without_outer_blanks : List ℕ → List ℕ
without_outer_blanks bs = before_blanks (after_blanks bs)

-- How a field's body is unfolded (RFC 5322, 2.2.3).
use Rattle.std.specs.Prelude.{ℕ, true, false, ◌&&◌, ◌||◌, ◌==◌, List, [], ◌∷◌}
use Rattle.header_text.specs.Blanks.{without_outer_blanks}

-- the bytes without each LF, and without a CR directly before one
abbrev pub without_breaks : List ℕ → List ℕ
without_breaks [] = []
without_breaks (b ∷ []) = elim (b == 0x0A) [ true ↦ [] | false ↦ b ∷ [] ]
without_breaks (b ∷ c ∷ bs) = let rest = without_breaks (c ∷ bs) in
    elim ((b == 0x0A) || ((b == 0x0D) && (c == 0x0A))) [ true ↦ rest | false ↦ b ∷ rest ]

-- a field's body in one line, without spaces and tabs at both ends
unfoldable pub unfolded_body : List ℕ → List ℕ
unfolded_body body = without_outer_blanks (without_breaks body)

-- The lines of a folded body, as they are added one after another.
use Rattle.std.specs.Prelude.{ℕ, Bool, ◌==◌, List, [], ◌∷◌, if◌then◌else◌}
use Rattle.header_text.specs.Blanks.{after_blanks}

-- a line without a CR at its end
abbrev pub without_final_cr : List ℕ → List ℕ
without_final_cr [] = []
without_final_cr (b ∷ []) = if b == 0x0D then [] else b ∷ []
without_final_cr (b ∷ c ∷ bs) = b ∷ without_final_cr (c ∷ bs)

-- what is added of a part: all of it if a byte was added before; otherwise what follows its spaces and tabs
abbrev pub added_part : Bool → List ℕ → List ℕ
added_part started bytes = if started then bytes else after_blanks bytes

-- Rows: how the last line ends.
use Rattle.mail_answer.proofs.Words.{◌≡◌, [], ◌∷◌, map, refl, codes, lines, first_length, is_empty, ending_of_bytes, Empty, Ended, Return, Open}

rows : map ending_of_bytes (codes "hi\n\r\n" ∷ codes "hi\r\n" ∷ codes "hi\n\r" ∷ codes "hi\nyou" ∷ [])
    ≡ Empty ∷ Ended ∷ Return ∷ Open 3 ∷ []
unfolding lines first_length is_empty
rows = refl

-- Rows: what closes a span.
use Rattle.mail_answer.proofs.Words.{◌≡◌, [], ◌∷◌, map, refl, codes, lines, first_length, is_empty, closed_text}

rows : map closed_text (codes "hi\n\n" ∷ codes "hi\n" ∷ codes "hi" ∷ codes "hi\n\r" ∷ [])
    ≡ codes "hi\n\n" ∷ codes "hi\n\n" ∷ codes "hi\n\n" ∷ codes "hi\n\r\n" ∷ []
unfolding closed_text lines first_length is_empty
rows = refl

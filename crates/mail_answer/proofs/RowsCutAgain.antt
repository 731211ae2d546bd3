-- Rows: messages that are closed and joined, and how they are cut again.
use Rattle.mail_answer.proofs.Words.{◌≡◌, ℕ, List, [], ◌∷◌, Some, map, refl, codes, concat, spans_of, messages, lines, first_length, is_empty, is_separator, without_break, has_form, places_from, closed_text}

-- texts that end without LF, in one LF, and in an empty line
abbrev three : List (List ℕ)
three = map closed_text (codes "From a 10:00 2003" ∷ codes "From b 10:00 2004\nx\n" ∷ codes
    "From c 10:00 2005\ny\r\n\r\n" ∷
    [])

-- CR LF is a line break, so the added LF makes the last line a separator
abbrev ends_in_cr : List ℕ
ends_in_cr = codes "From a 10:00 2003\n\nFrom b 10:00 2004\r"

rows : (spans_of (concat three) ≡ Some (places_from 0 three))
    × (places_from 0 three ≡ (0, 19) ∷ (19, 21) ∷ (40, 23) ∷ [])
    × (spans_of ends_in_cr ≡ Some ((0, 37) ∷ []))
    × (spans_of (closed_text ends_in_cr) ≡ Some ((0, 19) ∷ (19, 20) ∷ []))
unfolding closed_text messages lines first_length is_separator is_empty without_break has_form
rows = (refl, refl, refl, refl)

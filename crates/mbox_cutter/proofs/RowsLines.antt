-- Worked rows: lines, empty lines, and when the end of a line is known.
use Rattle.mbox_cutter.proofs.Words.{◌≡◌, [], ◌∷◌, None, Some, true, false, map, refl, codes, lines, first_length, is_empty, line_end_of}
use Rattle.mbox_cutter.proofs.RowTables.{Each}

rows : Each lines (([], []) ∷ (codes "\n\n", codes "\n" ∷ codes "\n" ∷ [])
    ∷ (codes "a\nbc\n", codes "a\n" ∷ codes "bc\n" ∷ []) ∷ (codes "a\nb", codes "a\n" ∷ codes "b" ∷ [])
    ∷ (codes "a\r\n\rb\r\r\n\r", codes "a\r\n" ∷ codes "\rb\r\r\n" ∷ codes "\r" ∷ [])
    ∷ (
      255 ∷ 0 ∷ 10 ∷ 133 ∷ 226 ∷ 128 ∷ 168 ∷ 11 ∷ 12 ∷ [],
      (255 ∷ 0 ∷ 10 ∷ []) ∷ (133 ∷ 226 ∷ 128 ∷ 168 ∷ 11 ∷ 12 ∷ []) ∷ [],
    ) ∷ [])
    × (map is_empty (codes "\n" ∷ codes "\r\n" ∷ [] ∷ codes "\r" ∷ codes "\r\r\n" ∷ codes "\n\n" ∷ codes " \n" ∷ codes
    "\n\r" ∷ (133 ∷ []) ∷ (12 ∷ 10 ∷ []) ∷ [])
    ≡ true ∷ true ∷ false ∷ false ∷ false ∷ false ∷ false ∷ false ∷ false ∷ false ∷ [])
    × (map line_end_of ([] ∷ codes "\n" ∷ codes "a\nb" ∷ codes "abc" ∷ codes "a\r" ∷ codes "\r\n" ∷ codes "\n\n" ∷ [])
    ≡ None ∷ Some 1 ∷ Some 2 ∷ None ∷ None ∷ Some 2 ∷ Some 1 ∷ [])
unfolding lines first_length is_empty line_end_of
rows = (refl, refl, refl)

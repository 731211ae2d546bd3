-- Worked rows: offset, length and size of the messages of archives.
use Rattle.mbox_cutter.proofs.Words.{◌≡◌, ℕ, List, [], ◌∷◌, ◌++◌, Option, None, Some, map, refl, codes, option_map, lines, first_length, is_empty, is_separator, without_break, has_form, messages, spans_of, span_length, size}
use Rattle.mbox_cutter.proofs.RowTables.{Each}

abbrev cut_with_sizes : List ℕ → Option (List (ℕ × ℕ × ℕ))
cut_with_sizes bytes = option_map (map (λ m. (m.offset, span_length m, size m))) (messages bytes)

abbrev hello : List ℕ
hello = codes "From a@x.org Thu Jan  2 10:00:00 2003\nSubject: Hello\n\nhi"

abbrev two : List ℕ
two =
    codes
    "From a@x.org Thu Jan  2 10:00:00 2003\nSubject: one\n\na\n\nFrom here on we go\n\nFrom - Sat Jan  4 12:00:00 2003\nSubject: two\n\nb\n\n"

rows : Each cut_with_sizes ((codes "", Some []) ∷ (codes "\n\n", Some []) ∷ (codes "\r\n\r\n", Some [])
    ∷ (codes "hello\n", None)
    ∷ (hello ++ codes "\n\n", Some ((0, 58, 19) ∷ []))
    ∷ (hello ++ codes "\n", Some ((0, 57, 19) ∷ []))
    ∷ (hello, Some ((0, 56, 18) ∷ []))
    ∷ (two, Some ((0, 75, 36) ∷ (75, 49, 16) ∷ []))
    ∷ (codes "\nFrom a 10:00 2003\n", Some ((1, 18, 0) ∷ []))
    ∷ (codes "\n\r\nFrom a 10:00 2003\n\nFrom b 10:00 2004", Some ((3, 19, 0) ∷ (22, 17, 0) ∷ []))
    ∷ (codes "From a 10:00 2003\nFrom b 10:00 2004\n", Some ((0, 36, 18) ∷ []))
    ∷ (codes "From a 10:00 2003\nx\nFrom b 10:00 2004\n", Some ((0, 38, 20) ∷ []))
    ∷ (codes "From a 10:00 2003\n \nFrom b 10:00 2004\n", Some ((0, 38, 20) ∷ []))
    ∷ (codes "From a 10:00 2003\r\nx\r\n\r\nFrom b 10:00 2004\r\ny\r\n", Some ((0, 24, 3) ∷ (24, 22, 3) ∷ []))
    ∷ (codes "From a 10:00 2003\r\nx\r\n\nFrom b 10:00 2004\r\n\r\n", Some ((0, 23, 3) ∷ (23, 21, 0) ∷ []))
    ∷ (codes "From a 10:00 2003\n\r", Some ((0, 19, 1) ∷ [])) ∷ (codes "\r", None)
    ∷ (codes "From a 10:00 2003\na\r\r\n\n", Some ((0, 23, 4) ∷ []))
    ∷ (codes "From a 10:00 2003\n\rx\n\n", Some ((0, 22, 3) ∷ []))
    ∷ (codes "From a 10:00 2003", Some ((0, 17, 0) ∷ [])) ∷ (codes "From a 10:00 2003\r", None)
    ∷ (codes "From a 10:00 2003\n\nFrom b 10:00 2004\n\n", Some ((0, 19, 0) ∷ (19, 19, 0) ∷ []))
    ∷ (codes "From a 10:00 2003\n\n\n\nFrom b 10:00 2004\n\n\n", Some ((0, 21, 2) ∷ (21, 20, 1) ∷ []))
    ∷ (codes "From a 10:00 2003\nx\n\r\n\n", Some ((0, 23, 4) ∷ [])) ∷ (codes "x\n\nFrom a 10:00 2003\n", None)
    ∷ (codes " \nFrom a 10:00 2003\n", None)
    ∷ (codes "From a 10:00 2003\n\n>From b 10:00 2004\n", Some ((0, 38, 20) ∷ []))
    ∷ (codes "From a 10:00 2003\n\nfrom b 10:00 2004\n", Some ((0, 37, 19) ∷ []))
    ∷ (codes "From a 10:00 2003\n\nFrom here on\n\nFrom b 2004 10:00\n", Some ((0, 51, 33) ∷ []))
    ∷ (codes "From a 2003 10:00\n", None)
    ∷ (
      codes "From a 10:00 2003\n" ++ (0 ∷ 255 ∷ 195 ∷ []) ++ codes "\n\nFrom b 10:00 2004\n" ++ (226 ∷ 128 ∷ 168 ∷ []),
      Some ((0, 23, 4) ∷ (23, 21, 3) ∷ []),
    )
    ∷ (
      codes "From a 10:00 2003\na\n\nFrom b 10:00 2004\n\nFrom a 10:00 2003\nb",
      Some ((0, 21, 2) ∷ (21, 19, 0) ∷ (40, 19, 1) ∷ []),
    )
    ∷ (codes "From a 10:00 2003\n\nx\n\nFrom c\n", Some ((0, 29, 11) ∷ [])) ∷ [])
    × (spans_of two ≡ Some ((0, 75) ∷ (75, 49) ∷ []))
unfolding messages lines first_length is_separator is_empty without_break has_form
rows = (refl, refl)

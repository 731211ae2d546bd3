-- Worked examples of fields, unfolding, ids, escapes and base64. The values on the right come from a separate reading
-- of the rules.
use Rattle.header_text.proofs.Words.{◌≡◌, ℕ, List, [], ◌∷◌, map, refl, codes, is_empty, before_blanks, HeaderField, fields_of, lines_within, most_in_header, unfolded_body, ids_of, q_bytes, sextet, bytes_of_sextets, base64_bytes}

abbrev field : List ℕ → List ℕ → HeaderField
field name body = record { name = name; body = body }

-- each row has an input and its result
abbrev pub Each : {A B : Type 0} → (A → B) → List (A × B) → Type 0
Each read rows = map (λ row. read row.0) rows ≡ map (λ row. row.1) rows

rows : Each fields_of ((codes "A: b\n" ∷ codes " c\n" ∷ codes "\n" ∷ [], field (codes "A") (codes " b\n c\n") ∷ [])
    ∷ (
      codes "A: b\n" ∷ codes "no colon\n" ∷ codes " c\n" ∷ codes "D:e\n" ∷ [],
      field (codes "A") (codes " b\n") ∷ field (codes "D") (codes "e\n") ∷ [],
    )
    ∷ (codes " x\n" ∷ codes "A:b\n" ∷ [], field (codes "A") (codes "b\n") ∷ [])
    ∷ (codes "A \t : b\n" ∷ [], field (codes "A") (codes " b\n") ∷ [])
    ∷ (codes ": b\n" ∷ codes "A:\n" ∷ [], field (codes "A") (codes "\n") ∷ [])
    ∷ (codes "A:1\r\n" ∷ codes "\r\n" ∷ codes "B:2\r\n" ∷ [], field (codes "A") (codes "1\r\n") ∷ [])
    ∷ (codes "\r" ∷ codes "A:1\r" ∷ [], field (codes "A") (codes "1\r") ∷ [])
    ∷ (codes "A:b:c\n" ∷ codes "\t:d\n" ∷ [], field (codes "A") (codes "b:c\n\t:d\n") ∷ [])
    ∷ ((195 ∷ 58 ∷ 98 ∷ 10 ∷ []) ∷ codes "a~!:c\n" ∷ [], field (codes "a~!") (codes "c\n") ∷ []) ∷ ([], [])
    ∷ (codes "\n" ∷ codes "A:b\n" ∷ [], [])
    ∷ (codes "A:b\n" ∷ codes " \n" ∷ codes "\tC:d\n" ∷ [], field (codes "A") (codes "b\n \n\tC:d\n") ∷ [])
    ∷ (codes "A:b" ∷ codes "c:d\n" ∷ [], field (codes "A") (codes "b") ∷ field (codes "c") (codes "d\n") ∷ [])
    ∷ (codes "A:b\n" ∷ [] ∷ codes " c\n" ∷ [], field (codes "A") (codes "b\n") ∷ []) ∷ (codes "A b: c\n" ∷ [], []) ∷ [])
    × Each unfolded_body ((codes " b\n c\n", codes "b c") ∷ (codes "\r\n", []) ∷ (codes " \n \t", [])
    ∷ (codes "a\r\r\nb", codes "a\rb") ∷ (codes "a\rb", codes "a\rb") ∷ (codes "a\n\nb", codes "ab")
    ∷ (codes "\t x \n", codes "x") ∷ ([], []) ∷ (codes "a\r", codes "a\r")
    ∷ (codes "\r\n\r\n a\r\n b ", codes "a b") ∷ [])
    × Each ids_of ((codes "<a@x> <b @y>", codes "a@x" ∷ codes "b@y" ∷ []) ∷ (codes "<<a>", codes "a" ∷ [])
    ∷ (codes "<a>>", codes "a" ∷ []) ∷ (codes "<a<b>c>", codes "b" ∷ []) ∷ (codes "<>< \t>", [])
    ∷ (codes "a>b<c", []) ∷ (codes "<a\r\n b>", codes "ab" ∷ []) ∷ (codes "<a", [])
    ∷ (codes "<a><b>", codes "a" ∷ codes "b" ∷ []) ∷ ([], []) ∷ [])
    × Each q_bytes ((codes "a_b", codes "a b") ∷ (codes "=E9t", 233 ∷ 116 ∷ [])
    ∷ (codes "=e9=3D=", 233 ∷ 61 ∷ 61 ∷ []) ∷ (codes "==41", codes "=A") ∷ (codes "=4_1", codes "=4 1")
    ∷ (codes "=4", codes "=4") ∷ (codes "=G0_", codes "=G0 ") ∷ (codes "=_=", codes "= =") ∷ ([], [])
    ∷ (codes "===41=", codes "==A=") ∷ [])
    × Each base64_bytes ((codes "ZsO8cg==", 102 ∷ 195 ∷ 188 ∷ 114 ∷ []) ∷ (codes "Zh", codes "f") ∷ (codes "Z", [])
    ∷ (codes "Zg", codes "f") ∷ (codes "Zm9=v", codes "fo") ∷ (codes "Z\nm9\r\nv!Yg", codes "foob") ∷ ([], [])
    ∷ (codes "=Zm9v", []) ∷ (codes "Zm9vYmFyZ", codes "foobar") ∷ (codes "//8", 255 ∷ 255 ∷ [])
    ∷ (codes "+/+/", 251 ∷ 255 ∷ 191 ∷ []) ∷ [])
    × (lines_within 7 (codes "A:b\n" ∷ codes "C:d" ∷ []) ≡ codes "A:b\n" ∷ codes "C:d" ∷ [])
    × (lines_within 6 (codes "A:b\n" ∷ codes "C:d" ∷ codes "E:" ∷ []) ≡ codes "A:b\n" ∷ [])
    × (lines_within 5 (codes "A:bc\n" ∷ codes "DE\n" ∷ codes "F" ∷ []) ≡ codes "A:bc\n" ∷ [])
    × (most_in_header ≡ 262144)
unfolding is_empty before_blanks fields_of unfolded_body ids_of q_bytes sextet bytes_of_sextets base64_bytes
rows = (refl, refl, refl, refl, refl, refl, refl, refl, refl)

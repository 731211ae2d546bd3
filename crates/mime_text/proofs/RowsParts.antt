-- Rows of the tree of parts. The values on the right were found by reading the rules separately.
use Rattle.mime_text.proofs.Words.{◌≡◌, ℕ, zero, suc, List, [], ◌∷◌, ◌++◌, length, refl, codes, map, is_empty, lines, first_length, without_break, before_blanks, HeaderField, fields_of, unfolded_body, piece_of, parameter, shape_of, shape_of_value, Part, Entity, Counted, Leaf, is_delimiter, parts_of_message}
use Rattle.mime_text.proofs.RowTables.{Each}

-- the bodies of the leaves
bodies : List Part → List (List (List ℕ))
bodies [] = []
bodies (Entity fields ∷ ps) = bodies ps
bodies (Counted fields ∷ ps) = bodies ps
bodies (Leaf is_html fields body ∷ ps) = body ∷ bodies ps

-- the names of the fields of the headers that count
names : List Part → List (List (List ℕ))
names [] = []
names (Entity fields ∷ ps) = names ps
names (Counted fields ∷ ps) = map (λ (f : HeaderField). f.name) fields ∷ names ps
names (Leaf is_html fields body ∷ ps) = names ps

-- this many messages, one in another
nested : ℕ → List (List ℕ)
nested zero = codes "\n" ∷ codes "a\n" ∷ []
nested (suc n) = codes "Content-Type: message/rfc822\n" ∷ codes "\n" ∷ nested n

-- a message of several parts, whose boundary is o
abbrev mixed : List ℕ → List ℕ
mixed text = codes "Content-Type: multipart/mixed; boundary=o\n\n" ++ text

rows : Each (λ text. bodies (parts_of_message shape_of (lines text)))
    ((
      mixed (codes "--o\nContent-Type: multipart/mixed; boundary=i\n\n--i\n\ninner\n--o\n\nouter\n--o--\n"),
      (codes "inner\n" ∷ []) ∷ (codes "outer\n" ∷ []) ∷ [],
    )
    ∷ (mixed (codes "before\n--o\n\na\n--o--\nbehind\n"), (codes "a\n" ∷ []) ∷ [])
    ∷ (mixed (codes "--o\n\na\n--o--x\nb\n--o--\nc\n"), (codes "a\n" ∷ codes "--o--x\n" ∷ codes "b\n" ∷ []) ∷ [])
    ∷ (
      mixed (codes "--o\n\na\n--ox\n--o b\nb\n"),
      (codes "a\n" ∷ codes "--ox\n" ∷ codes "--o b\n" ∷ codes "b\n" ∷ []) ∷ [],
    )
    ∷ (mixed (codes "--o \t\r\n\na\n--o-- \t\nb\n"), (codes "a\n" ∷ []) ∷ [])
    ∷ (mixed (codes "--o\n\na\n--o--"), (codes "a\n" ∷ []) ∷ [])
    ∷ (mixed (codes "--o\n\na\nb"), (codes "a\n" ∷ codes "b" ∷ []) ∷ []) ∷ (mixed (codes "a\n"), [])
    ∷ (mixed (codes "--o\n--o\n\n--o--\n"), [] ∷ [] ∷ [])
    ∷ (
      mixed (codes "--o\n\na\n--o-\n---o\n--o---\n"),
      (codes "a\n" ∷ codes "--o-\n" ∷ codes "---o\n" ∷ codes "--o---\n" ∷ []) ∷ [],
    )
    ∷ (codes "Content-Type: multipart/mixed; boundary=\"o\r\"\n\n--o\r\n\na\n--o\r\r\n\nb\n", (codes "b\n" ∷ []) ∷ [])
    ∷ (codes "Content-Type: multipart/mixed\n\n--o\na\n", (codes "--o\n" ∷ codes "a\n" ∷ []) ∷ [])
    ∷ (codes "Content-Type: image/png\n\na\n", []) ∷ (codes "Subject: a\n", [] ∷ [])
    ∷ (codes "Content-Type: message/rfc822\n\nTo: b\n\nc\n", (codes "c\n" ∷ []) ∷ [])
    ∷ (mixed (codes "--o\nContent-Type: multipart/mixed; boundary=o\n\n--o\n\na\n--o--\n"), (codes "a\n" ∷ []) ∷ [])
    ∷ (
      mixed (codes "--o\nContent-Type: multipart/mixed; boundary=i\n\n--i\n\na\n--o--\n--i\n\nb\n"),
      (codes "a\n" ∷ []) ∷ [],
    )
    ∷ (
      mixed (codes "--o\nContent-Type: multipart/mixed; boundary=oo\n\n--oo\n\na\n--oo--\n--o\n\nb\n"),
      (codes "a\n" ∷ []) ∷ (codes "b\n" ∷ []) ∷ [],
    ) ∷ [])
    × Each (λ text. names (parts_of_message shape_of (lines text)))
    ((mixed (codes "--o\nSubject: x\n\na\n"), (codes "Content-Type" ∷ []) ∷ [])
    ∷ (codes "Content-Type: message/rfc822\n\nTo: b\n\nc\n", (codes "Content-Type" ∷ []) ∷ (codes "To" ∷ []) ∷ [])
    ∷ (
      codes
          "Content-Type: multipart/digest; boundary=o\n\n--o\n\nTo: b\n\nc\n--o\nContent-Type: text/plain\n\nTo: c\n",
      (codes "Content-Type" ∷ []) ∷ (codes "To" ∷ []) ∷ [],
    )
    ∷ (
      mixed (codes "--o\nSubject: x\nContent-Type: message/rfc822\n\nTo: b\n\nc\n"),
      (codes "Content-Type" ∷ []) ∷ (codes "To" ∷ []) ∷ [],
    ) ∷ [])
    × (bodies (parts_of_message shape_of (nested 16)) ≡ (codes "a\n" ∷ []) ∷ [])
    × (bodies (parts_of_message shape_of (nested 17)) ≡ [])
    × (length (names (parts_of_message shape_of (nested 17))) ≡ 17)
unfolding is_empty lines first_length without_break before_blanks fields_of unfolded_body piece_of parameter
    shape_of_value
    is_delimiter bodies names nested
rows = (refl, refl, refl, refl, refl)

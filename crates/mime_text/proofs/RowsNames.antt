-- Rows of names. The values on the right were found by reading the rules separately.
use Rattle.mime_text.proofs.Words.{◌≡◌, ℕ, zero, suc, List, [], ◌∷◌, ◌++◌, replicate, Option, None, Some, refl, codes, is_empty, lines, first_length, without_break, before_blanks, fields_of, unfolded_body, piece_of, parameter, shape_of, shape_of_value, name_of, Part, Entity, Counted, Leaf, is_delimiter, parts_of_message}
use Rattle.mime_text.proofs.RowTables.{Each}

-- the names of the entities, in order, as written
names : List Part → List (Option (List ℕ))
names [] = []
names (Entity fields ∷ ps) = name_of fields ∷ names ps
names (Counted fields ∷ ps) = names ps
names (Leaf is_html fields body ∷ ps) = names ps

-- this many messages around a message with a name, which has a part with another name
nested : ℕ → List (List ℕ)
nested zero = codes "Content-Type: message/rfc822; name=a\n" ∷ codes "\n" ∷ codes "Content-Type: text/plain; name=b\n" ∷
    codes "\n" ∷ []
nested (suc n) = codes "Content-Type: message/rfc822\n" ∷ codes "\n" ∷ nested n

-- a message of several parts, whose boundary is o
abbrev mixed : List ℕ → List ℕ
mixed text = codes "Content-Type: multipart/mixed; boundary=o\n\n" ++ text

rows : Each (λ text. names (parts_of_message shape_of (lines text)))
    ((
      mixed
          (codes
          "--o\nContent-Type: application/pdf; name=old.pdf\nContent-Disposition: attachment; filename=\"Annual Report.pdf\"\n\n%PDF\n--o--\n"),
      None ∷ Some (codes "Annual Report.pdf") ∷ [],
    )
    ∷ (
      codes "Content-Disposition: attachment; filename=new.pdf\nContent-Type: application/pdf; name=old.pdf\n\n",
      Some (codes "new.pdf") ∷ [],
    )
    ∷ (codes "Content-Type: application/pdf; NAME=old.pdf\n\n", Some (codes "old.pdf") ∷ [])
    ∷ (
      codes "Content-Disposition: attachment; size=3\nContent-Type: application/pdf; name=old.pdf\n",
      Some (codes "old.pdf") ∷ [],
    )
    ∷ (
      codes "Content-Disposition: attachment; filename=\"\"\nContent-Type: application/pdf; name=old.pdf\n\n",
      Some (codes "old.pdf") ∷ [],
    )
    ∷ (codes "Content-Disposition: attachment; filename=\nContent-Type: application/pdf; name=\"\"\n\n", None ∷ [])
    ∷ (codes "Content-Disposition: attachment; filename=; filename=b\n\n", None ∷ [])
    ∷ (codes "Content-Disposition: inline\nContent-Disposition: attachment; filename=b\n\n", None ∷ [])
    ∷ (codes "Content-Type: ; name=lone.txt\n\na\n", Some (codes "lone.txt") ∷ [])
    ∷ (codes "Content-Disposition: attachment;\n filename=\"a \\\"b\\\".txt\"\n\n", Some (codes "a \"b\".txt") ∷ [])
    ∷ (
      codes
          "Content-Disposition: attachment; filename=\"=?utf-8?Q??=\"\nContent-Type: application/pdf; name=x.pdf\n\n",
      Some (codes "=?utf-8?Q??=") ∷ [],
    )
    ∷ (
      codes
          "Content-Type: multipart/mixed; name=all; boundary=o\n\n--o\nContent-Type: text/plain; name=a\n\na\n--o\n\n--o--\n",
      Some (codes "all") ∷ Some (codes "a") ∷ None ∷ [],
    )
    ∷ (
      codes "Content-Type: message/rfc822; name=note\n\nContent-Disposition: inline; filename=in\n\na\n",
      Some (codes "note") ∷ Some (codes "in") ∷ [],
    ) ∷ [])
    × (names (parts_of_message shape_of (nested 16)) ≡ replicate 16 None ++ (Some (codes "a") ∷ []))
    × (names (parts_of_message shape_of (nested 15)) ≡ replicate 15 None ++ (Some (codes "a") ∷ Some (codes "b") ∷ []))
    × (names (parts_of_message shape_of (nested 17)) ≡ replicate 17 None)
unfolding is_empty lines first_length without_break before_blanks fields_of unfolded_body piece_of parameter
    shape_of_value
    is_delimiter names nested
rows = (refl, refl, refl, refl)

-- Charsets: their labels, and the characters of their bytes.
use Rattle.std.specs.Prelude.{ℕ, ◌-◌, Bool, not, ◌&&◌, ◌==◌, nat_lt, nat_le, List, [], ◌∷◌, map, if◌then◌else◌}
use Rattle.std.specs.Prelude.{slice_index, codes, encode_utf8_all}
use Rattle.std.specs.List.{list_any}
use Rattle.bstr.specs.Utf8.{lossy_chars}
use Rattle.header_text.specs.Blanks.{split_while}
use Rattle.header_text.specs.Names.{is_named}
use Rattle.header_text.specs.declared.charset.Charset.{Charset}
use Rattle.header_text.specs.declared.charset.Charset.TheVariants.{Utf8, Latin1, Latin9, Windows1252, Unknown}

-- the part of a label before its first `*`
abbrev pub plain_label : List ℕ → List ℕ
plain_label label = (split_while (λ b. not (b == 0x2A)) label).0

-- whether a label is one of these, in any ASCII case
abbrev pub is_label_among : List (List ℕ) → List ℕ → Bool
is_label_among labels label = list_any (is_named label) labels

-- the labels of UTF-8: the empty one, those of US-ASCII, and its own
abbrev pub utf8_labels : List (List ℕ)
utf8_labels = [] ∷ codes "us-ascii" ∷ codes "ascii" ∷ codes "utf-8" ∷ codes "utf8" ∷ []

-- the labels of ISO 8859-1
abbrev pub latin1_labels : List (List ℕ)
latin1_labels = codes "iso-8859-1" ∷ codes "iso8859-1" ∷ codes "latin1" ∷ []

-- the labels of ISO 8859-15
abbrev pub latin9_labels : List (List ℕ)
latin9_labels = codes "iso-8859-15" ∷ codes "iso8859-15" ∷ []

-- the labels of Windows-1252
abbrev pub windows_1252_labels : List (List ℕ)
windows_1252_labels = codes "windows-1252" ∷ codes "cp1252" ∷ []

-- the charset of a label without a language
abbrev pub charset_named : List ℕ → Charset
charset_named label =
    if is_label_among utf8_labels label then Utf8
    else if is_label_among latin1_labels label then Latin1
    else if is_label_among latin9_labels label then Latin9
    else if is_label_among windows_1252_labels label then Windows1252
    else Unknown

-- the charset of a label, by the part before its first `*`
unfoldable pub charset_of : List ℕ → Charset
charset_of label = charset_named (plain_label label)

-- the character of a byte in ISO 8859-15, in which eight characters differ from ISO 8859-1
abbrev pub latin9_character : ℕ → ℕ
latin9_character b =
    if b == 0xA4 then 0x20AC
    else if b == 0xA6 then 0x0160
    else if b == 0xA8 then 0x0161
    else if b == 0xB4 then 0x017D
    else if b == 0xB8 then 0x017E
    else if b == 0xBC then 0x0152
    else if b == 0xBD then 0x0153
    else if b == 0xBE then 0x0178 else b

-- the characters of the bytes 80 to 9F in Windows-1252, with U+FFFD for a byte without a character
abbrev pub windows_1252_upper : List ℕ
windows_1252_upper =
    0x20AC ∷ 0xFFFD ∷ 0x201A ∷ 0x0192 ∷ 0x201E ∷ 0x2026 ∷ 0x2020 ∷ 0x2021
    ∷ 0x02C6 ∷ 0x2030 ∷ 0x0160 ∷ 0x2039 ∷ 0x0152 ∷ 0xFFFD ∷ 0x017D ∷ 0xFFFD
    ∷ 0xFFFD ∷ 0x2018 ∷ 0x2019 ∷ 0x201C ∷ 0x201D ∷ 0x2022 ∷ 0x2013 ∷ 0x2014
    ∷ 0x02DC ∷ 0x2122 ∷ 0x0161 ∷ 0x203A ∷ 0x0153 ∷ 0xFFFD ∷ 0x017E ∷ 0x0178 ∷ []

-- the character of a byte in Windows-1252
abbrev pub windows_1252_character : ℕ → ℕ
windows_1252_character b = if nat_le 0x80 b && nat_le b 0x9F then slice_index windows_1252_upper (b - 0x80) else b

-- the character of a byte in ASCII, with U+FFFD for any byte from 80 on
abbrev pub ascii_character : ℕ → ℕ
ascii_character b = if nat_lt b 0x80 then b else 0xFFFD

-- the character of a single byte in a charset; in UTF-8 only an ASCII byte has one
abbrev pub character : Charset → ℕ → ℕ
character Latin1 b = b
character Latin9 b = latin9_character b
character Windows1252 b = windows_1252_character b
character Utf8 b = ascii_character b
character Unknown b = ascii_character b

-- the characters of bytes: in UTF-8 each maximal faulty part gives one U+FFFD; in any other charset each byte is a
-- character
abbrev pub characters : Charset → List ℕ → List ℕ
characters Utf8 bytes = lossy_chars bytes
characters charset bytes = map (character charset) bytes

-- the text of bytes, in UTF-8
unfoldable pub text_of : Charset → List ℕ → List ℕ
text_of charset bytes = encode_utf8_all (characters charset bytes)

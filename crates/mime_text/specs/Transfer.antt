-- The bytes that the lines of a body encode (RFC 2045, 6).
use Rattle.std.specs.Prelude.{ℕ, ◌-◌, Bool, if◌then◌else◌, List, [], ◌∷◌, ◌++◌, length, drop, take, flat_map}
use Rattle.std.specs.List.{concat}
use Rattle.std.specs.Str.{bytes_eq}
use Rattle.mbox_cutter.specs.Separators.{without_break}
use Rattle.header_text.specs.Blanks.{before_blanks}
use Rattle.header_text.specs.Escapes.{unescaped_bytes}
use Rattle.header_text.specs.Base64.{base64_bytes}
use Rattle.mime_text.specs.declared.leaf.transfer.TransferEncoding.{TransferEncoding}
use Rattle.mime_text.specs.declared.leaf.transfer.TransferEncoding.TheVariants.{Identity, QuotedPrintable, Base64}

-- whether the last byte is this one
abbrev pub ends_in : ℕ → List ℕ → Bool
ends_in b bytes = bytes_eq (drop (length bytes - 1) bytes) (b ∷ [])

-- a line of quoted-printable without its line break and the spaces and tabs before it (RFC 2045, 6.7, rule 3)
abbrev pub printable_text : List ℕ → List ℕ
printable_text line = before_blanks (without_break line)

-- the line feed of a line, if it has one
abbrev pub feed_of : List ℕ → List ℕ
feed_of line = if ends_in 0x0A line then 0x0A ∷ [] else []

-- The bytes of a line of quoted-printable. A final `=` is a soft break, which is dropped with the line's break (rule
-- 5); any other line break is LF. Then `=` and two hexadecimal digits are a byte; any other `=` stays.
unfoldable pub printable_bytes : List ℕ → List ℕ
printable_bytes line = let text = printable_text line in
    if ends_in 0x3D text then unescaped_bytes (take (length text - 1) text) else unescaped_bytes text ++ feed_of line

-- the bytes of a body: quoted-printable is decoded line by line, base64 over all lines together
abbrev pub decoded_bytes : TransferEncoding → List (List ℕ) → List ℕ
decoded_bytes Identity ls = concat ls
decoded_bytes QuotedPrintable ls = flat_map printable_bytes ls
decoded_bytes Base64 ls = base64_bytes (concat ls)

-- What an entity is, by the fields of its header (RFC 2045, 5 and 6; RFC 2046).
use Rattle.std.specs.Prelude.{ℕ, Bool, true, false, not, ◌&&◌, ◌==◌, nat_le, if◌then◌else◌, List, [], length, take}
use Rattle.std.specs.Prelude.{Option, None, Some, unwrap_or, codes}
use Rattle.std.specs.List.{list_any}
use Rattle.header_text.specs.Blanks.{split_while, without_outer_blanks}
use Rattle.header_text.specs.Headers.{HeaderField}
use Rattle.header_text.specs.Names.{is_named, first_body}
use Rattle.header_text.specs.Unfolding.{unfolded_body}
use Rattle.header_text.specs.Charsets.{charset_of}
use Rattle.header_text.specs.declared.charset.Charset.{Charset}
use Rattle.mime_text.specs.Limits.{most_in_boundary}
use Rattle.mime_text.specs.Parameters.{semicolon, parameter}
use Rattle.mime_text.specs.declared.parts.shape.DefaultType.{DefaultType}
use Rattle.mime_text.specs.declared.parts.shape.DefaultType.TheVariants.{TextPlain, MessageRfc822}
use Rattle.mime_text.specs.declared.parts.shape.Shape.{Shape}
use Rattle.mime_text.specs.declared.parts.shape.Shape.TheVariants.{Multipart, Message, Text, Other}
use Rattle.mime_text.specs.declared.leaf.transfer.TransferEncoding.{TransferEncoding}
use Rattle.mime_text.specs.declared.leaf.transfer.TransferEncoding.TheVariants.{Identity, QuotedPrintable, Base64}

-- the value of the first field with this name, empty if there is none
abbrev pub first_value : List ℕ → List HeaderField → List ℕ
first_value name fields = unfolded_body (unwrap_or (first_body name fields) [])

-- the value of the first Content-Type field
abbrev pub content_type : List HeaderField → List ℕ
content_type = first_value (codes "content-type")

-- the name of the type of an entity that doesn't name its own
abbrev pub default_type : DefaultType → List ℕ
default_type TextPlain = codes "text/plain"
default_type MessageRfc822 = codes "message/rfc822"

-- what is before the first semicolon of a value, even of one in quotes, without blanks around it
abbrev pub type_text : List ℕ → List ℕ
type_text value = without_outer_blanks (split_while (λ b. not (b == semicolon)) value).0

-- whether there is a `/` in a text
abbrev pub has_slash : List ℕ → Bool
has_slash text = list_any (λ b. b == 0x2F) text

-- the type that a value names, or the default if it has no `/`
abbrev pub media_type : DefaultType → List ℕ → List ℕ
media_type default value = if has_slash (type_text value) then type_text value else default_type default

-- a boundary, if it isn't empty and not too long
abbrev pub usable : List ℕ → Option (List ℕ)
usable boundary = if nat_le 1 (length boundary) && nat_le (length boundary) most_in_boundary then Some boundary
    else None

-- the type of entities in a multipart that don't name theirs: messages in a multipart/digest (RFC 2046, 5.1.5)
abbrev pub default_in : List ℕ → DefaultType
default_in type = if is_named type (codes "multipart/digest") then MessageRfc822 else TextPlain

-- a multipart with a usable boundary; one without is read as text/plain
abbrev pub shape_of_multipart : List ℕ → Option (List ℕ) → Shape
shape_of_multipart type None = Text false
shape_of_multipart type (Some boundary) =
    elim (usable boundary) [ Some b ↦ Multipart b (default_in type) | None ↦ Text false ]

-- whether a type begins with `multipart/`, in any ASCII case
abbrev pub is_multipart : List ℕ → Bool
is_multipart type = is_named (take 10 type) (codes "multipart/")

-- what an entity of this type is, which isn't a multipart
abbrev pub shape_of_single : List ℕ → Shape
shape_of_single type =
    if is_named type (codes "message/rfc822") then Message
    else if is_named type (codes "text/plain") then Text false
    else if is_named type (codes "text/html") then Text true else Other

-- what an entity of this type is, with this parameter `boundary`
abbrev pub shape_of_type : List ℕ → Option (List ℕ) → Shape
shape_of_type type boundary = if is_multipart type then shape_of_multipart type boundary else shape_of_single type

-- what an entity is whose Content-Type field has this value
unfoldable pub shape_of_value : DefaultType → List ℕ → Shape
shape_of_value default value = shape_of_type (media_type default value) (parameter (codes "boundary") value)

-- what an entity with this header is
abbrev pub shape_of : DefaultType → List HeaderField → Shape
shape_of default fields = shape_of_value default (content_type fields)

-- the charset of an entity's text, by the parameter `charset` of this value; UTF-8 if that is missing
unfoldable pub charset_of_value : List ℕ → Charset
charset_of_value value = charset_of (unwrap_or (parameter (codes "charset") value) [])

-- the charset of an entity with this header
abbrev pub charset_in : List HeaderField → Charset
charset_in fields = charset_of_value (content_type fields)

-- the encoding of an entity's body, by the value of its Content-Transfer-Encoding field; an unknown encoding changes
-- nothing
unfoldable pub transfer_named : List ℕ → TransferEncoding
transfer_named value = if is_named value (codes "quoted-printable") then QuotedPrintable
    else if is_named value (codes "base64") then Base64 else Identity

-- the encoding of the body of an entity with this header
abbrev pub transfer_in : List HeaderField → TransferEncoding
transfer_in fields = transfer_named (first_value (codes "content-transfer-encoding") fields)

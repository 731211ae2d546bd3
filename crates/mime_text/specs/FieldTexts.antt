-- The texts of a header's fields.
use Rattle.std.specs.Prelude.{ℕ, List, Option, Some, None, if◌then◌else◌, option_map, codes}
use Rattle.std.specs.List.{filter_map}
use Rattle.header_text.specs.Headers.{HeaderField}
use Rattle.header_text.specs.Names.{is_named}
use Rattle.header_text.specs.Unfolding.{unfolded_body}
use Rattle.header_text.specs.EncodedWords.{decoded_value}
use Rattle.mail_words.specs.declared.kind.TextKind.{TextKind}
use Rattle.mail_words.specs.declared.kind.TextKind.TheVariants as kind

-- the kind of the text of a field with this name, in any ASCII case; None for fields without a text
abbrev pub kind_of_field : List ℕ → Option TextKind
kind_of_field name =
    if is_named name (codes "to") then Some kind.To
    else if is_named name (codes "cc") then Some kind.Cc
    else if is_named name (codes "bcc") then Some kind.Bcc
    else if is_named name (codes "from") then Some kind.From
    else if is_named name (codes "subject") then Some kind.Subject
    else None

-- the text of a field's body: unfolded, its encoded words decoded
abbrev pub text_of_body : List ℕ → List ℕ
text_of_body body = decoded_value (unfolded_body body)

-- the texts of a header: one for each To, Cc, Bcc, From and Subject field, in order
abbrev pub texts_of_fields : List HeaderField → List (TextKind × List ℕ)
texts_of_fields fields = filter_map (λ f. option_map (λ k. (k, text_of_body f.body)) (kind_of_field f.name)) fields

-- The name of an entity: the name of the file in which it is to be saved.
use Rattle.std.specs.Prelude.{ℕ, List, [], ◌∷◌, Option, None, Some, option_map, codes}
use Rattle.std.specs.Option.{option_or, option_to_list}
use Rattle.header_text.specs.Headers.{HeaderField}
use Rattle.header_text.specs.EncodedWords.{decoded_value}
use Rattle.mail_words.specs.declared.kind.TextKind.TheVariants as kind
use Rattle.mime_text.specs.Sinks.{Pair}
use Rattle.mime_text.specs.Parameters.{parameter}
use Rattle.mime_text.specs.Types.{first_value, content_type}

-- a value, if it isn't empty
abbrev pub unless_empty : Option (List ℕ) → Option (List ℕ)
unless_empty None = None
unless_empty (Some []) = None
unless_empty (Some (b ∷ bs)) = Some (b ∷ bs)

-- the parameter `filename` of the first Content-Disposition field (RFC 2183, 2.3)
abbrev pub filename_of : List HeaderField → Option (List ℕ)
filename_of fields = parameter (codes "filename") (first_value (codes "content-disposition") fields)

-- the parameter `name` of the first Content-Type field (RFC 2045, 5.1), even if the field names no type
abbrev pub type_name_of : List HeaderField → Option (List ℕ)
type_name_of fields = parameter (codes "name") (content_type fields)

-- the name of the entity with this header, as written: `filename`, or `name` if that is missing or empty
abbrev pub name_of : List HeaderField → Option (List ℕ)
name_of fields = option_or (unless_empty (filename_of fields)) (unless_empty (type_name_of fields))

-- the name's text, with encoded words decoded as in other fields of a header; it may be empty even if the name isn't
abbrev pub name_text : List HeaderField → Option (List ℕ)
name_text fields = option_map decoded_value (name_of fields)

-- the text of an entity's name as a list, which is empty if the entity has no name
abbrev pub name_texts : List HeaderField → List Pair
name_texts fields = option_to_list (option_map (λ text. (kind.Name, text)) (name_text fields))

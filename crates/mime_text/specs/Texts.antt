-- The texts of a message, each with its kind.
use Rattle.std.specs.Prelude.{ℕ, List, flat_map}
use Rattle.mime_text.specs.Sinks.{Pair}
use Rattle.mime_text.specs.FieldTexts.{texts_of_fields}
use Rattle.mime_text.specs.Names.{name_texts}
use Rattle.mime_text.specs.LeafReading.{body_pairs}
use Rattle.mime_text.specs.LeafTexts.{leaf_texts}
use Rattle.mime_text.specs.Types.{shape_of, charset_in, transfer_in}
use Rattle.mime_text.specs.Parts.{Part, Entity, Counted, Leaf, parts_of_message}

-- the texts of a part: for an entity its name, if it has one; for a header that counts one for each To, Cc, Bcc, From
-- and Subject field; for a leaf one for each line of its decoded body
abbrev pub part_texts : Part → List Pair
part_texts (Entity fields) = name_texts fields
part_texts (Counted fields) = texts_of_fields fields
part_texts (Leaf is_html fields body) = body_pairs (leaf_texts (transfer_in fields) (charset_in fields) is_html body)

-- the texts of the message whose text has these lines, in order
unfoldable pub texts_of_message : List (List ℕ) → List Pair
texts_of_message ls = flat_map part_texts (parts_of_message shape_of ls)

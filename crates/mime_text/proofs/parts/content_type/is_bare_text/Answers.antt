-- `is_bare_text` looks for fields, because an entity without them has the default type, charset and encoding.
use Rattle.mime_text.proofs.Words.{◌≡◌, ◌∙◌, List, [], Bool, true, false, not, refl, HeaderField, before_blanks, unfolded_body, piece_of, parameter, shape_of_value, charset_of_value, charset_of, transfer_named, shape_of, charset_in, transfer_in, TextPlain, Text, Utf8, Identity, arith}
use Rattle.mime_text.proofs.parts.content_type.is_bare_text.Goals as goal

shape-bare : (fields : List HeaderField) → fields ≡ [] → shape_of TextPlain fields ≡ Text false
unfolding before_blanks unfolded_body piece_of parameter shape_of_value
shape-bare fields e = rw e refl

charset-bare : (fields : List HeaderField) → fields ≡ [] → charset_in fields ≡ Utf8
unfolding before_blanks unfolded_body piece_of parameter charset_of_value charset_of
charset-bare fields e = rw e refl

transfer-bare : (fields : List HeaderField) → fields ≡ [] → transfer_in fields ≡ Identity
unfolding before_blanks unfolded_body transfer_named
transfer-bare fields e = rw e refl

has_none : (r : Bool) → not r ≡ true → r ≡ false
has_none r h = grind arith

pub returns-in-TextPlain-clause-shape : goal.returns-in-TextPlain-clause-shape
returns-in-TextPlain-clause-shape c t ls h =
    grind (arith, shape-bare)

pub returns-in-TextPlain-clause-charset : goal.returns-in-TextPlain-clause-charset
returns-in-TextPlain-clause-charset c t ls h =
    grind (arith, charset-bare)

pub returns-in-TextPlain-clause-transfer : goal.returns-in-TextPlain-clause-transfer
returns-in-TextPlain-clause-transfer c t ls h =
    grind (arith, transfer-bare)

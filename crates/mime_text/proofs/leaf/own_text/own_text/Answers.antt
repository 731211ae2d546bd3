-- `own_text` returns bytes that are their own text: valid UTF-8 in UTF-8, and ASCII in any charset.
use Rattle.mime_text.proofs.Words.{arith}
use Rattle.header_text.proofs.OwnTexts.{text_of-utf8, text_of-ascii}
use Rattle.mime_text.proofs.leaf.own_text.own_text.Goals as goal

pub returns-in-Utf8 : goal.returns-in-Utf8
returns-in-Utf8 c = grind (arith, text_of-utf8)

pub returns-in_default : goal.returns-in_default
returns-in_default c = grind (arith, text_of-ascii)

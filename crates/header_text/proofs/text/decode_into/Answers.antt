-- `decode_into` adds the text of the bytes, by the charset: UTF-8, or one in which each byte is a character.
use Rattle.header_text.proofs.Words.{text_of, arith}
use Rattle.header_text.proofs.WordLaws.CharacterLemmas.{text_of-single}
use Rattle.header_text.proofs.text.decode_into.Goals as goal

pub returns-in-Utf8-clause-text : goal.returns-in-Utf8-clause-text
unfolding text_of
returns-in-Utf8-clause-text c = rw c.in-Utf8.is c.push_lossy.ensures.text

pub returns-in_default-clause-text : goal.returns-in_default-clause-text
returns-in_default-clause-text c = grind (arith, text_of-single)

pub returns-in-Utf8-clause-front : goal.returns-in-Utf8-clause-front
unfolding text_of
returns-in-Utf8-clause-front c = rw c.in-Utf8.is c.push_lossy.ensures.front

pub returns-in_default-clause-front : goal.returns-in_default-clause-front
returns-in_default-clause-front c = grind (arith, text_of-single)

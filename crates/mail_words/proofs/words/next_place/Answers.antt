-- `next_place` returns the first place whose plain word is short enough, because a place with a longer one gives no
-- words.
use Rattle.mail_words.proofs.Imports.{arith, eqb-true, eqb-false}
use Rattle.mail_words.proofs.Reading.{words_left-end}
use Rattle.mail_words.proofs.FrontReads.{no_chars}
use Rattle.mail_words.proofs.Kept.{words_left-kept, words_left-dropped}
use Rattle.mail_words.proofs.words.next_place.Goals as goal

pub returns-then-is_empty : goal.returns-then-is_empty
returns-then-is_empty c = grind (arith, no_chars, eqb-true, words_left-end)

pub returns-then-place-le-WORD_LIMIT : goal.returns-then-place-le-WORD_LIMIT
returns-then-place-le-WORD_LIMIT c = grind (arith, eqb-false, words_left-kept)

pub places-preserved : goal.places-preserved
places-preserved c = grind (arith, words_left-dropped)

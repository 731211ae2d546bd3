-- The words so far have no mark from the wanted place on, and the bits of the word in hand are the marks from there on.
use Rattle.mail_answer.proofs.Words.{◌-◌, length}
use Rattle.mail_answer.proofs.CursorLaws.WindowMarks.{IsInHand}
use Rattle.mail_answer.proofs.cursor.window.first_place.Given as goal

abbrev pub invariant-loop-word : goal.invariant-loop-word
invariant-loop-word l = IsInHand l.words l.place l.number l.word

abbrev pub decreases-loop-word : goal.decreases-loop-word
decreases-loop-word l = length l.words - l.number

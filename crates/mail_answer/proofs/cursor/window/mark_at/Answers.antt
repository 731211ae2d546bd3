-- `mark_at` marks a place of the window, because it sets the bit of that place.
use Rattle.mail_answer.proofs.Words.{arith}
use Rattle.mail_answer.proofs.CursorLaws.WindowMarks.{marks-long, marks_place}
use Rattle.mail_answer.proofs.cursor.window.mark_at.Goals as goal

pub returns-then-number-words-clause-within : goal.returns-then-number-words-clause-within
returns-then-number-words-clause-within = grind (arith, marks-long)

pub returns-then-number-words-clause-marks : goal.returns-then-number-words-clause-marks
returns-then-number-words-clause-marks = grind (arith, marks-long)

pub returns-clause-within : goal.returns-clause-within
returns-clause-within = grind (arith, marks-long)

pub returns-clause-marks : goal.returns-clause-marks
returns-clause-marks c = marks_place _ _ c.if-number-words.false

-- `before_blanks` takes blanks off the end one by one, because the last byte that isn't a blank ends what the
-- definition keeps.
use Rattle.header_text.proofs.Words.{arith, nil_from_length}
use Rattle.header_text.proofs.Fronts.{before_blanks-last, before_blanks-stops, before_blanks-nil}
use Rattle.header_text.proofs.blanks.before_blanks.Goals as goal

pub loop-last-preserved : goal.loop-last-preserved
loop-last-preserved c = grind (arith, before_blanks-last)

pub returns-else-is_blank : goal.returns-else-is_blank
returns-else-is_blank c = grind (arith, before_blanks-stops)

pub returns-in-loop-last : goal.returns-in-loop-last
returns-in-loop-last c = grind (arith, nil_from_length, before_blanks-nil)

-- What is read is a range of the grammar, and each range of the grammar is read: `range_law` has both directions.
use Rattle.mail_dates.proofs.RangeReading.{range_law}
use Rattle.mail_dates.proofs.laws.a_range_is_read_as_the_grammar_says.Goals as goal

pub returns : goal.returns
returns c = λ text now. range_law _ _

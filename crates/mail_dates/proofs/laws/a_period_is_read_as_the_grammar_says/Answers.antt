-- What is read are days that the grammar gives, and all that it gives are read: `named_law` has both directions.
use Rattle.mail_dates.proofs.PeriodReading.{named_law}
use Rattle.mail_dates.proofs.laws.a_period_is_read_as_the_grammar_says.Goals as goal

pub returns : goal.returns
returns c = named_law

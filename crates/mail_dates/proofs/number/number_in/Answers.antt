-- The number is below its bound, because its text has at most `most` digits.
use Rattle.mail_dates.proofs.Words.{arith, pow-le-pow_right}
use Rattle.mail_dates.proofs.number.number_in.Goals as goal

pub returns-clause-bound : goal.returns-clause-bound
returns-clause-bound c = grind (arith, pow-le-pow_right)

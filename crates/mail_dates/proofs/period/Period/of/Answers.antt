-- `Period::of` tries the forms in the order of the definition; how the alternatives are grouped doesn't matter.
use Rattle.mail_dates.proofs.Words.{◌≡◌, Option, arith, period_of}
use Rattle.std.specs.Option.{option_or}
use Rattle.mail_dates.proofs.period.Period.of.Goals as goal

or_assoc : {T : Type 0} (a b c : Option T) → option_or (option_or a b) c ≡ option_or a (option_or b c)
or_assoc a b c = grind arith

pub returns : goal.returns
unfolding period_of
returns c = grind (arith, or_assoc)

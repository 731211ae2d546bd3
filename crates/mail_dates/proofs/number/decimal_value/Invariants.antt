-- The value is that of the digits so far, and is less than ten to the power of their number.
use Rattle.mail_dates.proofs.Words.{◌≡◌, ◌<◌, ◌^◌, take}
use Rattle.std.specs.Str.Parse.{digits_value}
use Rattle.mail_dates.proofs.number.decimal_value.Given as goal

abbrev pub invariant-loop-digit : goal.invariant-loop-digit
invariant-loop-digit l = record {
  value : l.value ≡ digits_value 10 (take l.digit-index l.digits);
  bound : l.value < 10 ^ l.digit-index;
}

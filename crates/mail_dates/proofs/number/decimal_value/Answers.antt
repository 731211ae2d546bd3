-- `decimal_value` returns the value of the digits, digit by digit. No step overflows, because there are at most 18.
use Rattle.mail_dates.proofs.Words.{arith, pow-le-pow_right}
use Rattle.std.proofs.lemmas.Grind.{pow_more}
use Rattle.std.proofs.lemmas.Int.Digits.{digits_value_more}
use Rattle.mail_dates.proofs.Digits.{digit_at}
use Rattle.mail_dates.proofs.number.decimal_value.Goals as goal

pub overflow_mul-value : goal.overflow_mul-value
overflow_mul-value c = grind (arith, pow-le-pow_right)

pub overflow_add-value : goal.overflow_add-value
overflow_add-value c = grind (arith, pow-le-pow_right)

pub loop-digit-preserved : goal.loop-digit-preserved
loop-digit-preserved c = grind (arith, digit_at, digits_value_more, pow_more)

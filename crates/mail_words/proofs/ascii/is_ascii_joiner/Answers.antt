-- The table agrees with the definition at each of the 256 bytes, by computation.
use Rattle.mail_words.proofs.Imports.{get_or, refl, arith, agree_below_at, is_joiner, CLASSES}
use Rattle.std.proofs.Common.{◌==◌}
use Rattle.mail_words.proofs.ascii.is_ascii_joiner.Goals as goal

pub returns : goal.returns
unfolding is_joiner
returns c = agree_below_at (λ b. get_or CLASSES b 0 == 106) is_joiner 256 c.args.byte refl (omega arith)

-- The table agrees with the definition at each of the 256 bytes, by computation.
use Rattle.header_text.proofs.Words.{refl, arith, is_symbol, get_or, ◌==◌, agree_below_at}
use Rattle.header_text.specs.declared.base64_groups.TheConstants.{SYMBOLS}
use Rattle.header_text.proofs.base64_groups.is_symbol.Goals as goal

pub returns : goal.returns
returns c = agree_below_at (λ b. get_or SYMBOLS b 0 == 115) is_symbol 256 c.args.b refl (omega arith)

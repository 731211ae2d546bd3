-- `has_open` finds a `(` among the open items exactly if there is one, item by item.
use Rattle.mail_query.proofs.Words.{arith}
use Rattle.mail_query.proofs.BooleanLaws.StackLemmas.{open_here, none_open}
use Rattle.mail_query.proofs.boolean.reader.has_open.Goals as goal

pub returns-in-ForClose : goal.returns-in-ForClose
returns-in-ForClose c = grind (arith, open_here)

pub returns : goal.returns
returns c = grind (arith, none_open)

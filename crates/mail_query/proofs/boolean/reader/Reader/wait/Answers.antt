-- `Reader::wait` opens one more item, or refuses it if 30 are open, because the definition counts the same items.
use Rattle.mail_query.proofs.Words.{arith}
use Rattle.mail_query.proofs.BooleanLaws.StackLemmas.{deeper-full, deeper-room, length-shown_stack, shown_stack-push}
use Rattle.mail_query.proofs.boolean.reader.Reader.wait.Goals as goal

pub returns-then-len-ge-MOST_WAITING : goal.returns-then-len-ge-MOST_WAITING
returns-then-len-ge-MOST_WAITING c = grind (arith, length-shown_stack, deeper-full)

pub returns : goal.returns
returns c = grind (arith, length-shown_stack, deeper-room, shown_stack-push)

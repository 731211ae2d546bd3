-- `Keys::next` returns the first of the keys that still come, because its number is the next one.
use Rattle.mail_index.proofs.Words.{arith, text_and_numbers, no_key}
use Rattle.mail_index.proofs.ViewLaws.RunLemmas.{between-next}
use Rattle.mail_index.proofs.view.directory.keys.Keys.next.Goals as goal

pub returns : goal.returns
returns c = grind (arith, text_and_numbers, between-next, no_key)

-- No item so far is a `(`, so there is one exactly if there is one among the items left.
use Rattle.mail_query.proofs.Words.{◌≡◌, drop}
use Rattle.mail_query.proofs.BooleanLaws.StackLemmas.{has_open_code}
use Rattle.mail_query.proofs.boolean.reader.has_open.Given as goal

abbrev pub invariant-all : goal.invariant-all
invariant-all l = has_open_code (drop l.what-index l.waiting) ≡ has_open_code l.waiting

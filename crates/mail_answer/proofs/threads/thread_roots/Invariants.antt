-- The roots so far are the messages themselves.
use Rattle.mail_answer.proofs.Words.{◌≡◌, range_with_len}
use Rattle.mail_answer.proofs.threads.thread_roots.Given as goal

abbrev pub invariant-loop-number : goal.invariant-loop-number
invariant-loop-number l = l.roots.items ≡ range_with_len 0 l.number

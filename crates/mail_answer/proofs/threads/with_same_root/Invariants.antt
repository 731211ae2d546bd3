-- The roots of the numbers so far are marked, and no others.
use Rattle.mail_answer.proofs.Words.{false, nat_eq, get_or, length, replicate, take, list_any, Adds}
use Rattle.mail_answer.proofs.threads.with_same_root.Given as goal

abbrev pub invariant-loop-number : goal.invariant-loop-number
invariant-loop-number l = Adds (λ r. list_any (λ n. nat_eq r (get_or l.roots n 0)) (take l.number-index l.numbers))
    (replicate (length l.roots) false) l.marks.items

-- The numbers so far are those of the messages so far whose root is marked.
use Rattle.mail_answer.proofs.Words.{◌≡◌, get_or, filter, range_with_len, truth_at}
use Rattle.mail_answer.proofs.threads.with_marked_root.Given as goal

abbrev pub invariant-loop-number : goal.invariant-loop-number
invariant-loop-number l = l.numbers.items
    ≡ filter (λ n. truth_at l.marks (get_or l.roots n 0)) (range_with_len 0 l.number)

-- The ending of the bytes so far.
use Rattle.mail_answer.proofs.Words.{◌≡◌, ℕ, List, ◌++◌, take, ending_of_bytes}
use Rattle.mail_answer.proofs.output.ending.with_each.Given as goal

abbrev pub invariant-loop-b : goal.invariant-loop-b
invariant-loop-b l = (bytes : List ℕ) → l.fn.before ≡ ending_of_bytes bytes → l.ending
    ≡ ending_of_bytes (bytes ++ take l.b-index l.more)

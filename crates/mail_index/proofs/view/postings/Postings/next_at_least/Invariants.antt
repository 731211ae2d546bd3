-- Numbers below n were dropped, each with a step.
use Rattle.mail_index.proofs.Words.{◌≡◌, ◌<◌, ◌-◌, ◌++◌, ℕ, List, length, AllByRecursion, add_steps}
use Rattle.mail_index.proofs.view.postings.Postings.next_at_least.Given as goal

abbrev pub invariant-loop-number : goal.invariant-loop-number
invariant-loop-number l = record {
  split : (dropped : List ℕ) × AllByRecursion (λ m. m < l.n) dropped × (l.fn.self ≡ dropped ++ l.self);
  steps : l.steps ≡ add_steps l.fn.steps (length l.fn.self - length l.self);
}

abbrev pub decreases-loop-number : goal.decreases-loop-number
decreases-loop-number l = length l.self

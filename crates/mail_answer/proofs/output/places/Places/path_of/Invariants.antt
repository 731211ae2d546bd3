-- The archive isn't passed yet, or it was passed last.
use Rattle.mail_answer.proofs.Words.{◌≡◌, ◌+◌, ◌-◌, ◌≤◌}
use Rattle.mail_answer.proofs.output.places.Places.path_of.Given as goal

abbrev pub invariant-passing : goal.invariant-passing
invariant-passing l = (l.self.table ≡ l.fn.self.table) × (l.self.passed ≤ l.archive + 1)

abbrev pub decreases-passing : goal.decreases-passing
decreases-passing l = l.archive + 1 - l.self.passed

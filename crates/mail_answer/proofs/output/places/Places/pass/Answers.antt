-- `Places::pass` passes one more archive, and there is one, because a message is in it.
use Rattle.mail_answer.proofs.Words.{arith}
use Rattle.mail_answer.proofs.ArchiveLaws.PassedArchives.{passed_more}
use Rattle.mail_answer.proofs.ArchiveLaws.StaleLemmas.{still_named}
use Rattle.mail_answer.proofs.output.places.Places.pass.Goals as goal

pub unreachable-requires : goal.unreachable-requires
unreachable-requires = grind (arith, still_named)

pub invariant_of-self : goal.invariant_of-self
invariant_of-self c =
    let s = c.self.inside in
    passed_more _ _ _ _ _ _
    c.self.invariant c.in-Some.ensures

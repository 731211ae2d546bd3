-- The archives before this one are as they were indexed.
use Rattle.mail_answer.proofs.Words.{◌≡◌, ◌≤◌, drop, length, IfSome, Agree, first_changed, HoldsArchives}
use Rattle.mail_answer.proofs.archives.stale.check_archives.Given as goal

abbrev pub invariant-loop-archive : goal.invariant-loop-archive
invariant-loop-archive g l = record {
  within : l.n ≤ length l.fn.index.archives;
  coming : l.named ≡ drop l.n l.fn.index.archives;
  keeps : HoldsArchives g.A.Archives l.fn.archives l.archives;
  count : g.A.Archives.failures l.archives ≡ g.A.Archives.failures l.fn.archives;
  agree : Agree g.A.Archives l.fn.index.archives l.n l.fn.archives l.archives;
  so_far : IfSome (g.A.Archives.held l.archives)
      (λ bytes. first_changed 0 l.fn.index.archives bytes
      ≡ first_changed l.n (drop l.n l.fn.index.archives) (drop l.n bytes));
}

abbrev pub decreases-loop-archive : goal.decreases-loop-archive
decreases-loop-archive g l = length l.named

-- The archives before this one are those that were indexed.
use Rattle.mail_answer.proofs.Words.{◌≡◌, ◌≤◌, drop, length, AreReadOnce, KeepsArchives}
use Rattle.mail_answer.proofs.ArchiveLaws.VerifiedLemmas.{UnalteredTo}
use Rattle.mail_answer.proofs.archives.verified.check_digests.Given as goal

abbrev pub invariant-loop-archive : goal.invariant-loop-archive
invariant-loop-archive g l = record {
  within : l.n ≤ length l.fn.index.archives;
  coming : l.named ≡ drop l.n l.fn.index.archives;
  keeps : KeepsArchives g.A.Archives l.fn.archives l.archives;
  count : g.A.Archives.failures l.archives ≡ g.A.Archives.failures l.fn.archives;
  read : AreReadOnce g.A.Archives l.fn.index.archives l.n l.fn.archives l.archives;
  so_far : UnalteredTo l.fn.index.archives (g.A.Archives.held l.archives) l.n (drop l.n l.fn.index.archives);
}

abbrev pub decreases-loop-archive : goal.decreases-loop-archive
decreases-loop-archive g l = length l.named

-- The digest has the bytes before this offset.
use Rattle.mail_answer.proofs.Words.{◌≡◌, ◌≤◌, ◌-◌, KeepsArchives}
use Rattle.mail_answer.proofs.ArchiveLaws.DigestLemmas.{AbsorbedTo}
use Rattle.mail_answer.proofs.archives.verified.read_digest.Given as goal

abbrev pub invariant-pieces : goal.invariant-pieces
invariant-pieces g l = record {
  keeps : KeepsArchives g.A.Archives l.fn.archives l.archives;
  count : g.A.Archives.failures l.archives ≡ g.A.Archives.failures l.fn.archives;
  within : l.at ≤ l.fn.indexed_length;
  absorbed : AbsorbedTo g.A.Archives l.fn.archive l.at l.fn.archives l.archives l.hasher;
}

abbrev pub decreases-pieces : goal.decreases-pieces
decreases-pieces g l = l.indexed_length - l.at

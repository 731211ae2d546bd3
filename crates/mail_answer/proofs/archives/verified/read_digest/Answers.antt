-- `read_digest` returns the digest of the archive's front, because it takes in one piece after another.
use Rattle.mail_answer.proofs.Words.{◌∙◌, take, length-take-le, arith}
use Rattle.mail_answer.proofs.ArchiveLaws.DigestLemmas.{more_absorbed}
use Rattle.mail_answer.proofs.ArchiveLaws.CallLemmas.{keeps_join}
use Rattle.mail_answer.proofs.archives.verified.read_digest.Goals as goal

pub pieces-preserved : goal.pieces-preserved
pieces-preserved g c =
    let i = c.pieces.invariant in
    let read = c.in-Ok.ensures in
    record {
      keeps = keeps_join _ _ _ _ i.keeps
          (record { held = read.held; was = read.was; number = read.number; asked = read.asked });
      count = read.count ∙ i.count;
      within = grind (arith, length-take-le);
      absorbed = more_absorbed _ _ _ _ _
          _ _ _ _ read.held i.absorbed (record {
            bytes = take c.in-Ok.count c.read_at.new.into;
            number = length-take-le c.in-Ok.count c.read_at.new.into read.bound;
            part = c.update.ensures;
            read = read.bytes;
            told = read.read;
          });
    }

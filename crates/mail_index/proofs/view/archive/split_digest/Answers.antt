-- `split_digest` refuses only bytes that are too short for a digest, and only version 2 has one.
use Rattle.mail_index.proofs.ViewLaws.DigestReads.{cut_digest, whole_digest}
use Rattle.mail_index.proofs.view.archive.split_digest.Goals as goal

pub returns-in_err-digest-in-Two : goal.returns-in_err-digest-in-Two
returns-in_err-digest-in-Two c = rw c.from_residual.ensures
    (cut_digest _ _ c.in-Two.is c.in_err-digest-in-Two.ensures.cases)

pub returns-in_ok-digest-in-Two : goal.returns-in_ok-digest-in-Two
returns-in_ok-digest-in-Two c = whole_digest _ _ _ _ c.in-Two.is c.in_ok-digest-in-Two.ensures.cases

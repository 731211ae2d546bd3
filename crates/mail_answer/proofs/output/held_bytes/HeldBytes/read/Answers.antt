-- `HeldBytes::read` moves bytes to those that were read, by the result of the archive's read.
use Rattle.mail_answer.proofs.Words.{arith}
use Rattle.mail_answer.proofs.OutputLaws.ReadingLemmas.{tail_none}
use Rattle.mail_answer.proofs.output.held_bytes.HeldBytes.read.Goals as goal

pub returns-then-n-eq0-clause-count : goal.returns-then-n-eq0-clause-count
returns-then-n-eq0-clause-count = grind arith

pub returns-then-n-eq0-clause-stale : goal.returns-then-n-eq0-clause-stale
returns-then-n-eq0-clause-stale = grind arith

pub returns-then-n-eq0-clause-bytes : goal.returns-then-n-eq0-clause-bytes
returns-then-n-eq0-clause-bytes = grind arith

pub returns-then-n-eq0-clause-unread : goal.returns-then-n-eq0-clause-unread
returns-then-n-eq0-clause-unread = grind arith

pub returns-then-n-eq0-clause-read : goal.returns-then-n-eq0-clause-read
returns-then-n-eq0-clause-read g c =
    tail_none _ _ _ _ _ _ _ _ _ c.in-Ok.ensures.bytes c.if-n-eq0.true

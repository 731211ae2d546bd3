-- `push_lossy` adds at most three bytes for each byte, because a faulty part of one byte or more gives three.
use Rattle.header_text.proofs.Words.{arith, length-append}
use Rattle.header_text.proofs.WordLaws.LossyBytes.{length-lossy}
use Rattle.header_text.proofs.text.push_lossy.Goals as goal

pub returns-clause-size : goal.returns-clause-size
returns-clause-size c = grind (arith, length-append, length-lossy)

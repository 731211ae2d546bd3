-- A read gives the next bytes of the archive, because what it copies and what is left join to what was left before.
use Rattle.mbox_cutter.proofs.Words.{arith, length-append, drop_all, length-drop, length-take-le}
use Rattle.mbox_cutter.proofs.Parts.{read_part}
use Rattle.mbox_cutter.proofs.memory.MemorySourceSource.read_next.Goals as goal

pub returns-clause-bytes : goal.returns-clause-bytes
returns-clause-bytes c = grind (arith, read_part, drop_all, length-append, length-drop, length-take-le)

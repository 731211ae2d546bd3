-- `line_end_after` finds the end of the first line in the bytes not yet searched, because the others have no LF.
use Rattle.mbox_cutter.proofs.Words.{arith}
use Rattle.mbox_cutter.proofs.LineEnds.{searched-fits, after-found, after-full, after-open}
use Rattle.mbox_cutter.proofs.line.line_end_after.Goals as goal

pub split_at-requires : goal.split_at-requires
split_at-requires c = grind (arith, searched-fits)

pub returns-in-Some : goal.returns-in-Some
returns-in-Some c =
    after-found c.args.bytes.now c.split_at.result.1.now c.min.result c.args.searched c.in-Some.at (omega arith)
    c.requires.free c.requires.few c.split_at.ensures.back c.in-Some.ensures

pub returns-in-None : goal.returns-in-None
returns-in-None c =
    after-full c.args.bytes.now c.split_at.result.1.now c.min.result c.args.searched (omega arith) c.requires.free
    c.requires.few c.split_at.ensures.back c.in-None.ensures (omega arith)

pub returns-in-None-2 : goal.returns-in-None-2
returns-in-None-2 c =
    after-open c.args.bytes.now c.split_at.result.1.now c.min.result c.args.searched (omega arith) c.requires.free
    c.requires.few c.split_at.ensures.back c.in-None-2.ensures (omega arith)

-- Each turn reads on after what was read, until the slice is full or nothing is left.
use Rattle.std.proofs.Common.{rules}
use Rattle.mairix_run.proofs.WholeFiles.{fills_on}
use Rattle.mairix_run.proofs.whole_file.fill.Goals as goal

pub loop-at-preserved : goal.loop-at-preserved
loop-at-preserved g c =
    let rest = g.S.Source.rest in
    record {
      read = fills_on (rest c.args.source.now) (rest c.loop-at.source) (rest c.read_next.new.self) c.loop-at.at
          c.in-Ok.n c.loop-at.into c.read_next.new.into c.loop-at.invariant.read c.in-Ok.ensures.known
          c.in-Ok.ensures.bytes.0 c.loop-at.invariant.within c.in-Ok.ensures.bound;
      within = search rules;
      room = search rules;
      count = search rules;
    }

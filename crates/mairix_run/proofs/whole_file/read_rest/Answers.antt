-- Each turn reads one piece more.
use Rattle.std.proofs.Common.{rules}
use Rattle.mairix_run.proofs.WholeFiles.{reads_on}
use Rattle.mairix_run.proofs.whole_file.read_rest.Goals as goal

pub loop-preserved : goal.loop-preserved
loop-preserved g c =
    let rest = g.S.Source.rest in
    let most = c.next_count-most.result in
    record {
      read = reads_on (rest c.args.source.now) (rest c.loop.source) (rest c.read_piece.new.source) most
          c.args.bytes.now.items c.loop.bytes.items c.read_piece.new.bytes.items c.loop.invariant.read
          c.in-Ok.ensures.front;
      count = search rules;
    }

-- What a source with a digest was before a read, it is after it, since this holds of the other source.
use Rattle.mbox_cutter.specs.Digests.{inner}
use Rattle.mbox_cutter.proofs.Sources.{Stays-join}
use Rattle.mbox_cutter.proofs.digested.DigestedSource.TheImpl.Goals as goal

pub read_next-tells : goal.read_next-tells
read_next-tells g c = let e = c.ensures in record {
  bound = e.bound;
  bytes = e.bytes;
  known = e.inside.known;
  count = e.count;
  whole = e.whole;
  below = e.below;
  through = e.through;
  was = λ first was. Stays-join g.S.Source (inner first).now _ _ was e.inside;
}

-- A source still has to be in the state in which it had to be before a read.
use Rattle.std.proofs.Common.{◌∙◌, refl}
use Rattle.named_archives.proofs.named_source.NamedSourceSource.TheImpl.Goals as goal

pub read_next-tells : goal.read_next-tells
read_next-tells g c = let e = c.ensures in record {
  bound = e.bound;
  bytes = e.bytes;
  known = e.known;
  count = e.count;
  whole = e.whole;
  below = λ number bytes is. is;
  through = refl;
  was = λ first was. e.same.2 ∙ was;
}

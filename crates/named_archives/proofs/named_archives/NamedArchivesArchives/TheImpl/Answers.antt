-- The archives are still the same files, and have to be in the states in which they had to be before a call.
use Rattle.std.proofs.Common.{◌∙◌, refl}
use Rattle.named_archives.proofs.named_archives.NamedArchivesArchives.TheImpl.Goals as goal

pub length-tells : goal.length-tells
length-tells g c = let e = c.ensures in record {
  bytes = e.bytes;
  measured = tt;
  count = e.count;
  held = e.held;
  was = λ first was. (e.files ∙ was.0, e.states ∙ was.1);
  number = e.number;
}

pub read_at-tells : goal.read_at-tells
read_at-tells g c = let e = c.ensures in record {
  bound = e.bound;
  bytes = e.bytes;
  read = tt;
  asked = refl;
  count = e.count;
  held = e.held;
  was = λ first was. (e.files ∙ was.0, e.states ∙ was.1);
  number = e.number;
}

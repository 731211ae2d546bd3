-- What a source in memory still gives is known, whatever it is.
use Rattle.mairix_tool.proofs.Words.{Some, refl, sym, All-map}
use Rattle.std.specs.Prelude.{IsSome}
use Rattle.std.proofs.lemmas.Simd.{map-map}
use Rattle.mbox_cutter.specs.Memory.{Giving}
use Rattle.mairix_tool.proofs.laws.sources_in_memory_stay_known.Goals as goal

pub returns : goal.returns
returns c = λ old new. (
  sym (map-map Some (λ (s : Giving). s.rest) old),
  All-map IsSome (λ (s : Giving). Some s.rest) new (λ i d below. refl),
)

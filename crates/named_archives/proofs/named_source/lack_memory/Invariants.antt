-- Memory ran out for none of the sources so far.
use Rattle.std.proofs.Common.{◌≡◌, false, take}
use Rattle.std.specs.List.{list_any}
use Rattle.named_archives.specs.Progress.{is_for_memory}
use Rattle.named_archives.proofs.named_source.lack_memory.Given as goal

abbrev pub invariant-loop-source : goal.invariant-loop-source
invariant-loop-source g l = list_any (λ s. is_for_memory s.refused) (take l.source-index l.sources) ≡ false

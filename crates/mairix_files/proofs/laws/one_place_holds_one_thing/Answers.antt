-- Two names that lead to one place are looked up as one name.
use Rattle.std.proofs.Common.{ap, true, false}
use Rattle.mairix_files.specs.NameCalls.{entry_in}
use Rattle.mairix_files.proofs.NameSteps.{same_place}
use Rattle.mairix_files.proofs.laws.one_place_holds_one_thing.Goals as goal

pub returns : goal.returns
returns c supposed a b same =
    ap (λ n. record { entry = entry_in supposed.entries n; is_on_disk = true; is_left = false })
    (same_place supposed.links a b same)

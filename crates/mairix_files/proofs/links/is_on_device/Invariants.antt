-- Each turn has looked at one more path, and none was on the device.
use Rattle.std.proofs.Common.{◌≡◌, List, ◌++◌, length, true}
use Rattle.std.specs.Path.{path_bytes}
use Rattle.std.specs.Path.Iter.{ancestors_next}
use Rattle.system.specs.declared.found.Found.{Found}
use Rattle.system.specs.SystemCalls.{CallAnswer}
use Rattle.mairix_files.specs.LinkChains.{is_off_device, looks_upward, path_above}
use Rattle.mairix_files.proofs.links.is_on_device.Given as goal

abbrev pub invariant-loop-place : goal.invariant-loop-place
invariant-loop-place g l =
    (goal.iterator-loop-place g).can_next l.place-iterator
    × (goal.iterator-loop-place g).is_finite l.place-iterator
    × ((answers : List (CallAnswer Found)) × (is_off_device l.device answers ≡ true)
    × (ancestors_next l.place-iterator ≡ path_above (path_bytes l.path) (length answers))
    × (g.S.System.calls l.log ≡ looks_upward (path_bytes l.path) answers ++ g.S.System.calls l.initial.log))

-- What was written so far is noted, and it is a front of the bytes. Each write takes at least one byte.
use Rattle.std.proofs.Common.{length, ◌-◌, ◌≡◌, ◌≤◌, ◌++◌, take}
use Rattle.call_record.specs.Calls.{taken_after}
use Rattle.mairix_files.proofs.kit_new.write_front.Given as goal

abbrev pub invariant-loop-count : goal.invariant-loop-count
invariant-loop-count l =
    (l.count ≤ length l.bytes)
    × (taken_after l.noted.calls ≡ taken_after l.initial.noted.calls ++ take l.count l.bytes)

abbrev pub decreases-loop-count : goal.decreases-loop-count
decreases-loop-count l = length l.bytes - l.count

-- No file is being made while files are put into the folder.
use Rattle.std.proofs.Common.{◌≡◌, None}
use Rattle.std.specs.Option.{option_map}
use Rattle.std.specs.String.{string_bytes}
use Rattle.folder_trial.proofs.answers_in_memory.Given as goal

abbrev pub invariant-loop-line : goal.invariant-loop-line
invariant-loop-line l =
    record {
      can : goal.iterator-loop-line.can_next l.line-iterator;
      ends : goal.iterator-loop-line.is_finite l.line-iterator;
      none : option_map string_bytes l.folder.making ≡ None;
    }

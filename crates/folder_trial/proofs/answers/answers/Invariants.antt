-- No file is being made when a call begins.
use Rattle.std.proofs.Common.{◌≡◌, None}
use Rattle.folder_trial.proofs.answers.answers.Given as goal

abbrev pub invariant-loop-call : goal.invariant-loop-call
invariant-loop-call g l =
    let F = g.F.Folder in
    record {
      can : (goal.iterator-loop-call g).can_next l.call-iterator;
      ends : (goal.iterator-loop-call g).is_finite l.call-iterator;
      none : F.making l.folder ≡ None;
    }

-- What a folder in memory holds after one more step.
use Rattle.std.proofs.Common.{◌≡◌, ◌∙◌, ap, List, [], ◌∷◌, ◌++◌, map}
use Rattle.std.proofs.lemmas.List.{reverse-append}
use Rattle.named_files.specs.declared.memory_folder.step.Step.{Step}
use Rattle.named_files.specs.MemoryFolders.{change_of, changes_of}

-- the step that is added is the newest one
pub changes_more : (steps new : List Step) (step : Step) → new ≡ steps ++ step ∷ []
    → changes_of new ≡ change_of step ∷ changes_of steps
changes_more steps new step is = ap changes_of is ∙ ap (map change_of) (reverse-append steps (step ∷ []))

-- How a name ends, for which name a run is stopped while a file is made, and by which calls the file is made.
use Rattle.std.proofs.Common.{◌≡◌, ◌∙◌, ◌==◌, ◌||◌, not, ℕ, nat_eq, Bool, true, false, if◌then◌else◌, List, Option, None, Some, Result, Err, IfErr, take, ◌⊎◌, arith}
use Rattle.std.proofs.lemmas.Bool.Decides.{nat_tests}
use Rattle.std.proofs.lemmas.List.{length-take, take-take}
use Rattle.std.proofs.lemmas.Str.Pattern.{ends_text}
use Rattle.std.specs.Bool.{MatchBool}
use Rattle.std.specs.List.{ends_with}
use Rattle.std.specs.Str.Pattern.{FindsTextSuffix, HasSuffixMatch}
use Rattle.named_files.specs.Entries.{Entry, IsFileOf}
use Rattle.named_files.specs.Refusals.{HasCause, refusal_of_name}
use Rattle.named_files.specs.declared.name_fault.NameFault.{NameFault}
use Rattle.named_files.specs.declared.refusal.Refusal.{Refusal}
use Rattle.named_files.specs.declared.refusal.Refusal.TheVariants as why
use Rattle.mairix_run.specs.OldIndexes.{IsNotReplaced, is_foreign, is_replaceable}
use Rattle.mairix_run.specs.MadeFiles.{IsCleared, IsRefusal, MakesFile, fault_of_refusal, unfit_name}
use Rattle.run_faults.specs.declared.fault.Fault.TheVariants.{Out}
use Rattle.mairix_run.specs.Stops.{IsGivenUnlessRefused, IsStoppedAt}
use Rattle.mairix_run.specs.declared.stopped.Stopped.{Stopped}
use Rattle.mairix_run.specs.declared.stopped.Stopped.TheVariants as by

-- how a text ends
pub ends_as_text : (r : Bool) (n s : List ℕ) → MatchBool r (HasSuffixMatch (FindsTextSuffix n) s)
    (FindsTextSuffix n s None) → r ≡ ends_with nat_eq s n
ends_as_text r n s h = ends_text r n s h

-- a name that doesn't fit is the first one
pub refused_unfit : (unfit taken : Option (List ℕ)) (temporary name : List ℕ) (C : Type 0) (stopped : Stopped)
    → IsRefusal unfit None temporary name ⊥ stopped → IsRefusal unfit taken temporary name C stopped
refused_unfit unfit taken temporary name C stopped h = grind arith

-- if both names fit, a name of something special is the first one, or the system didn't show what the name leads to
pub refused_special : (unfit : Option (List ℕ)) (special free : Bool) (temporary name : List ℕ) (C : Type 0)
    (stopped : Stopped) → unfit ≡ None → IsNotReplaced name ((special ≡ true) ⊎ C) stopped
    → IsRefusal unfit (if special then Some name else (if free then None else Some temporary)) temporary name C stopped
refused_special unfit special free temporary name C stopped none h = grind arith

-- then the run is stopped for the temporary name
pub refused_temporary : (unfit : Option (List ℕ)) (special free : Bool) (temporary name : List ℕ) (C : Type 0)
    (stopped : Stopped) → unfit ≡ None → special ≡ false → (free ≡ false) ⊎ C → IsStoppedAt temporary stopped
    → IsRefusal unfit (if special then Some name else (if free then None else Some temporary)) temporary name C stopped
refused_temporary unfit special free temporary name C stopped none plain left at = grind arith

-- ---- by which calls

module _ {D : Type 0} (removes creates : D → List ℕ → Bool → D → Type 0) (temporary : List ℕ) where
  -- a killed run's file was removed, and then one was made, or couldn't be made
  pub makes_file : (done : Bool) (old free new : D) → IsCleared removes temporary old free
      → creates free temporary done new
      → MakesFile removes creates temporary done old new
  makes_file done old free new cleared made = grind arith

  -- a killed run's file couldn't be removed
  pub makes_none : (old new : D) → (new ≡ old) ⊎ removes old temporary false new
      → MakesFile removes creates temporary false old new
  makes_none old new h = grind arith

-- ---- why a file doesn't take its name

-- names that fit are apart from one another
pub apart_of_fit : (apart : List ℕ → List ℕ → Bool) (read : List (List ℕ)) (temporary name : List ℕ)
    → unfit_name apart read temporary name ≡ None → apart name temporary ≡ true
apart_of_fit apart read temporary name fit = grind arith

-- the output failed, and not memory: that has a cause
pub fails_to_take : (C : Type 0) (fault : NameFault) → HasCause (refusal_of_name fault) C
    → fault_of_refusal (refusal_of_name fault) ≡ Out → C
fails_to_take C fault cause is = grind arith

-- ---- which file is replaced

-- if a folder gave nothing for a name, the run is stopped at it for the folder's cause
pub stops_for : {T : Type 0} (path : List ℕ) (given : Result T Refusal) (C : Type 0) (stopped : Stopped)
    → IsGivenUnlessRefused path given (Err stopped) → IfErr given (λ why. HasCause why C)
    → IsNotReplaced path C stopped
stops_for path given C stopped is cause = grind arith

pub stopped_at : (path : List ℕ) (C : Type 0) (stopped : Stopped) → IsStoppedAt path stopped → C
    → IsNotReplaced path C stopped
stopped_at path C stopped at cause = grind arith

-- the first eight bytes show whether an index may take the place of a file
pub replaceable_front : (all : List ℕ) → is_replaceable (take 8 all) ≡ is_replaceable all
replaceable_front all = grind (arith, length-take, nat_tests, take-take)

pub foreign_front : (entry : Entry) (front : List ℕ) → IsFileOf (λ all. front ≡ take 8 all) entry
    → is_foreign entry ≡ not (is_replaceable front)
foreign_front entry front (all, is, same) = grind (arith, replaceable_front)

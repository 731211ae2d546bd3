-- A file that a run makes: which name is refused, and what the file has in the end.
use Rattle.std.proofs.Common.{◌≡◌, ◌∙◌, ◌⊎◌, ℕ, Bool, true, false, ◌&&◌, List, [], ◌∷◌, All, Option, None, Some, Result, IfErr, OnOk, if◌then◌else◌, arith, rules}
use Rattle.std.proofs.lemmas.Bool.Decides.{nat_tests}
use Rattle.std.proofs.lemmas.List.Elements.{All-cons, All-nil}
use Rattle.std.specs.List.{Contains}
use Rattle.named_files.specs.Entries.{Entry, SameWhere}
use Rattle.run_faults.specs.declared.fault.Fault.{Fault}
use Rattle.run_faults.specs.declared.fault.Fault.TheVariants.{Out}
use Rattle.mairix_run.specs.MadeFiles.{IsRefusal, IsSettled, LeadsForGood, is_open_to, is_special, taken_name, unfit_name}
use Rattle.mairix_run.specs.ReadFiles.{are_all_apart}
use Rattle.mairix_run.specs.Stops.{Ending, ending_by, ending_of_stopped}
use Rattle.mairix_run.specs.Tasks.{Work, search_work}
use Rattle.mairix_tool.specs.Asked.{Wanted}
use Rattle.mairix_run.specs.WholeRuns.{IsTrouble, IsWritten, MakesFor, Puts, is_kept, temporary_of, refused_name}
use Rattle.mairix_run.specs.declared.stopped.Stopped.{Stopped}
use Rattle.mairix_run.specs.declared.stopped.Stopped.TheVariants as by

-- ---- names

apart-from-both : (apart : List ℕ → List ℕ → Bool) (read : List (List ℕ)) (temporary name : List ℕ)
    → are_all_apart apart read temporary ≡ true → are_all_apart apart read name ≡ true
    → All (λ n. (apart n temporary && apart n name) ≡ true) read
apart-from-both apart [] temporary name one other = All-nil (λ n. (apart n temporary && apart n name) ≡ true)
apart-from-both apart (n ∷ read) temporary name one other =
    All-cons (λ n. (apart n temporary && apart n name) ≡ true) n read (grind (arith, nat_tests))
    (apart-from-both apart read temporary name (grind (arith, nat_tests)) (grind (arith, nat_tests)))

-- names that fit leave each name that is read as it is
pub fit-apart : (apart : List ℕ → List ℕ → Bool) (read : List (List ℕ)) (temporary name : List ℕ)
    → unfit_name apart read temporary name ≡ None → All (λ n. (apart n temporary && apart n name) ≡ true) read
fit-apart apart read temporary name fit =
    apart-from-both apart read temporary name (grind (arith, nat_tests)) (grind (arith, nat_tests))

-- names that are apart from both are as they were
pub kept-all : (read : List (List ℕ)) (passes : List ℕ → Bool) (old new : List ℕ → Entry)
    → All (λ n. passes n ≡ true) read → SameWhere passes old new → All (λ n. new n ≡ old n) read
kept-all read passes old new apart same = search (rules, apart, same)

-- ---- a refusal

module _ (holds : List ℕ → Entry) (apart : List ℕ → List ℕ → Bool) (is_leftover : List ℕ → Bool) (work : Work)
    (read : List (List ℕ)) (name : List ℕ) (names : List (List ℕ)) (CanRefuse ReadsCanFail : Type 0)
    (IsMade : Ending → Type 0) where
  abbrev Unfit : Option (List ℕ)
  Unfit = unfit_name apart read (temporary_of name) name

  abbrev Taken : Option (List ℕ)
  Taken = taken_name holds is_leftover (temporary_of name) name

  abbrev Stops : Ending → Type 0
  Stops ended = IsTrouble names CanRefuse ReadsCanFail ended
      ⊎ MakesFor (refused_name holds apart is_leftover work read name) IsMade ended

  -- the file can't be made, and its name isn't that of a file that stays
  pub refused-stops : Contains names name → Contains names (temporary_of name) → is_kept work (holds name) ≡ false
      → (stopped : Stopped) → IsRefusal Unfit Taken (temporary_of name) name CanRefuse stopped
      → Stops (ending_of_stopped stopped)
  refused-stops here there new stopped h = grind arith

  -- no name is refused
  pub none-refused : is_kept work (holds name) ≡ false → Unfit ≡ None → is_special (holds name) ≡ false
      → is_open_to holds is_leftover (temporary_of name) ≡ true
      → refused_name holds apart is_leftover work read name ≡ None
  none-refused new fit plain is_free = grind arith

-- ---- what the file has

-- the work was written, and then the file took its name or was removed
pub puts-settled : (OutFails ReadFails : Type 0) (work : Work) (taken : Option (List ℕ))
    (written result : Result ℕ Fault) (now : Entry) (may_leave : Entry → Type 0)
    → IsWritten OutFails ReadFails work (Some []) taken written → IsSettled written result
    → OnOk written (IfErr result (λ fault. fault ≡ Out → OutFails)) → OnOk result (LeadsForGood now may_leave taken)
    → Puts OutFails ReadFails work now (ending_by result)
puts-settled OutFails ReadFails work taken written result now may h settled cause leads = grind arith

-- a search replaces any file
pub search-not-kept : (wanted : Result Wanted Fault) (index : Option (List ℕ)) (bytes : List (List ℕ)) (entry : Entry)
    → is_kept (search_work wanted index bytes) entry ≡ false
search-not-kept wanted index bytes entry = grind arith

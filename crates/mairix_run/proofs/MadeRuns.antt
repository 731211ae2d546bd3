-- What becomes of a folder while a run makes a file: it isn't made, or it is made, filled and settled.
use Rattle.std.proofs.Common.{◌≡◌, ◌∙◌, ◌⊎◌, inr, ⊎_elim, refl, sym, subst, ℕ, Bool, true, false, ◌&&◌, List, [], All, Option, None, Some, Result, Ok, Err, IfErr, OnErr, OnOk, ◌∷◌, ◌++◌, map, arith}
use Rattle.std.proofs.lemmas.List.Elements.{All-head, All-tail}
use Rattle.named_archives.specs.Names.{files_of}
use Rattle.named_archives.specs.Progress.{CannotRead}
use Rattle.std.proofs.lemmas.Bool.Decides.{nat_tests}
use Rattle.named_files.specs.Crashes.{LeavesOnly}
use Rattle.named_files.specs.Entries.{Entry, SameWhere, bytes_of}
use Rattle.named_files.specs.OtherNames.{LeavesAloneThroughout}
use Rattle.named_files.specs.TakingNames.{Replaces}
use Rattle.named_files.specs.declared.folder.Folder.{Ghosts as FolderGhosts}
use Rattle.run_faults.specs.declared.fault.Fault.{Fault}
use Rattle.run_faults.specs.declared.fault.Fault.TheVariants.{Out}
use Rattle.mairix_run.proofs.MadeFiles.{apart_of_fit}
use Rattle.mairix_run.proofs.MakingRuns.{fit-apart, kept-all, none-refused, puts-settled, refused-stops}
use Rattle.mairix_run.proofs.NamesUsed.{contains-first, contains-more}
use Rattle.mairix_run.proofs.RunParts.{follows}
use Rattle.mairix_run.specs.Inside.RunParts.{MakesOrStops, ReplacesFile}
use Rattle.mairix_run.specs.MadeFiles.{IsNotMade, IsSettled, LeadToOldOrNew, LeadsForGood, MakesFile, MayBeMade, SettlesFile, taken_name, unfit_name}
use Rattle.mairix_run.specs.OldIndexes.{IsNotReplaced}
use Rattle.mairix_run.specs.Stops.{Ending, ending_by, ending_of_stopped}
use Rattle.mairix_run.specs.Tasks.{Work}
use Rattle.mairix_run.specs.WholeRuns.{IsWritten, KeepsOld, LeavesInMaking, Puts, is_kept, temporary_of}
use Rattle.mairix_run.specs.declared.stopped.Stopped.{Stopped}

-- what is so of a list is so of its end
pub all-after : (P : List ℕ → Type 0) (front back : List (List ℕ)) → All P (front ++ back) → All P back
all-after P [] back all = all
all-after P (n ∷ front) back all = all-after P front back (All-tail P n (front ++ back) all)

-- files whose names lead to what they led to before
pub files-same : {N : Type 0} (text : N → List ℕ) (old new : List ℕ → Entry) (names : List N)
    → All (λ n. new n ≡ old n) (map text names) → files_of text new names ≡ files_of text old names
files-same text old new [] same = refl
files-same text old new (name ∷ names) same = λ i.
    bytes_of (All-head (λ n. new n ≡ old n) (text name) (map text names) same i)
    ∷ files-same text old new names (All-tail (λ n. new n ≡ old n) (text name) (map text names) same) i

module _ {D F S N L R M A : Type 0} (f : FolderGhosts D F S N L R M A) (old : D) (read : List (List ℕ)) (name : List ℕ)
  where
    abbrev Temporary : List ℕ
    Temporary = temporary_of name

    -- each name that is apart from the temporary name is left alone
    abbrev LeavesOthers : List ℕ → D → D → Type 0
    LeavesOthers temporary before after =
        LeavesAloneThroughout f.apart f.holds f.may_leave f.moment f.left_since (λ n. f.apart before n temporary) before
        after

    -- names that fit lead to what they led to, once a file is made
    pub fit-same : (new : D) (temporary : List ℕ) → unfit_name (f.apart old) read temporary name ≡ None
        → SameWhere (λ n. f.apart old n temporary) (f.holds old) (f.holds new)
        → All (λ n. f.holds new n ≡ f.holds old n) read
    fit-same new temporary fit others = kept-all read (λ n. f.apart old n temporary && f.apart old n name)
        (f.holds old) (f.holds new) (fit-apart (f.apart old) read temporary name fit)
        (λ n both. others n (grind (arith, nat_tests)))

    -- ---- no file is made

    -- what a call says that made none
    pub record NoneMade (new : D) (stopped : Stopped) (temporary : List ℕ) : Type 0 where
      pub none : IsNotMade (unfit_name (f.apart old) read temporary name)
          (taken_name (f.holds old) (f.is_leftover old) temporary name) temporary name f.can_refuse old new stopped
      pub others : LeavesOthers temporary old new
      pub calls : MakesFile f.removes f.creates temporary false old new

    abbrev OutFails : Type 0
    OutFails = f.can_refuse ⊎ f.writes_can_fail

    -- what the calls say that made it, and that settled it
    pub record MadeAndSettled (mid new : D) (taken : Option (List ℕ)) (written result : Result ℕ Fault)
        (temporary : List ℕ) : Type 0 where
      pub serves : MayBeMade (f.holds old) (f.apart old) (f.is_leftover old) read temporary name
      pub others : LeavesOthers temporary old mid
      pub made : MakesFile f.removes f.creates temporary true old mid
      pub settled : IsSettled written result
      pub refused : OnOk written (IfErr result (λ fault. fault ≡ Out → OutFails))
      pub named : OnOk result (LeadsForGood (f.holds new name) (f.may_leave new name) taken)
      pub given_up : OnErr written (LeavesOthers temporary mid new)
      pub names : LeadToOldOrNew (f.apart mid) temporary name taken (f.holds mid) (f.holds new)
      pub settling : LeavesOnly f.moment f.left_since mid new (Replaces (f.apart mid) (f.may_leave mid) temporary name
          taken)
      pub calls : SettlesFile f.renames f.syncs f.discards name written result mid new

    module _ (ReadsAgree : Type 0) (work : Work)
        (only_now : (n : List ℕ) (c : Entry) → f.left_since old (f.moment old) n c → f.may_leave old n c) where
      -- a crash at any moment since leaves the old file or the whole text
      abbrev Leaves : D → Type 0
      Leaves new = LeavesOnly f.moment f.left_since old new
          (LeavesInMaking (f.apart old) (f.may_leave old) ReadsAgree work name)

      abbrev Replaces-file : D → Ending → Type 0
      Replaces-file new ended = ReplacesFile f ReadsAgree work read name old new ended

      -- its name is that of a file that stays, or that can't be seen
      pub kept-replaced : (stopped : Stopped)
          → IsNotReplaced name ((is_kept work (f.holds old name) ≡ true) ⊎ (f.can_refuse ⊎ f.reads_can_fail)) stopped
          → Replaces-file old (ending_of_stopped stopped)
      kept-replaced stopped is = grind (arith, contains-first)

      -- the folder is as it was
      same-replaced : (ended : Ending) → MakesOrStops f ReadsAgree work read name old old ended
          → Replaces-file old ended
      same-replaced ended stops = grind arith

      none-replaced : (new : D) (stopped : Stopped) → is_kept work (f.holds old name) ≡ false
          → NoneMade new stopped Temporary → Replaces-file new (ending_of_stopped stopped)
      none-replaced new stopped free none =
          let stops : (now : D) → MakesOrStops f ReadsAgree work read name old now (ending_of_stopped stopped) = λ now.
          refused-stops (f.holds old) (f.apart old) (f.is_leftover old) work read name (name ∷ Temporary ∷ [])
          f.can_refuse f.reads_can_fail (λ e. ReadsAgree → Puts OutFails (CannotRead f.can_refuse f.reads_can_fail) work
          (f.holds now name) e) (contains-first name (Temporary ∷ []))
          (contains-more name Temporary (Temporary ∷ []) (contains-first Temporary []))
          free stopped none.none.refusal in
          ⊎_elim (λ fit. record {
            run = stops new;
            keeps = grind (arith, apart_of_fit);
            kept = fit-same new Temporary fit none.others.others;
            alone = grind arith;
            any_moment = grind (arith, apart_of_fit);
            calls = grind arith;
          })
          (λ same. subst (λ d. Replaces-file d (ending_of_stopped stopped)) (sym same) (same-replaced _ (stops old)))
          none.none.untouched

      -- the same for a temporary name that equals the name's
      pub none-made : (new : D) (stopped : Stopped) (temporary : List ℕ) → Temporary ≡ temporary
          → is_kept work (f.holds old name) ≡ false → NoneMade new stopped temporary
          → Replaces-file new (ending_of_stopped stopped)
      none-made new stopped temporary e free none = grind (arith, none-replaced)

      -- ---- a file is made, filled and settled

      module _ (mid new : D) (taken : Option (List ℕ)) (written result : Result ℕ Fault) where
        module _ (m : MadeAndSettled mid new taken written result Temporary) where
          abbrev Wrote : Result ℕ Fault → Type 0
          Wrote w = IsWritten OutFails (CannotRead f.can_refuse f.reads_can_fail) work (Some []) taken w

          made-leaves : (w : Result ℕ Fault) → w ≡ written → (ReadsAgree → Wrote w) → Leaves new
          made-leaves (Ok status) same wrote = grind (arith, follows)
          made-leaves (Err fault) same wrote = grind (arith, follows)

          made-keeps : (w r : Result ℕ Fault) → w ≡ written → (ReadsAgree → Wrote w) → IsSettled w r
              → KeepsOld ReadsAgree work (f.holds old name) (f.holds new name) (ending_by r)
          made-keeps (Ok status) r is wrote settled = grind arith
          made-keeps (Err fault) r is wrote settled = grind arith

          settled-replaced : is_kept work (f.holds old name) ≡ false → (ReadsAgree → Wrote written)
              → Replaces-file new (ending_by result)
          settled-replaced free wrote = record {
            run = grind (arith, none-refused, puts-settled);
            keeps = made-keeps written result refl wrote m.settled;
            kept = grind (arith, kept-all, fit-apart);
            alone = grind arith;
            any_moment = made-leaves written refl wrote;
            calls = inr (inr (mid, m.made, written, result, refl, m.calls));
          }

        -- the same for a temporary name that equals the name's
        pub made-settled : (temporary : List ℕ) → Temporary ≡ temporary
            → MadeAndSettled mid new taken written result temporary → is_kept work (f.holds old name) ≡ false
            → (ReadsAgree → IsWritten OutFails (CannotRead f.can_refuse f.reads_can_fail) work (Some []) taken written)
            → Replaces-file new (ending_by result)
        made-settled temporary e m free wrote = grind (arith, settled-replaced)

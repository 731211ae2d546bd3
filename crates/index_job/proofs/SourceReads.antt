-- Reads of a cutter's source, one after another, up to the archive's end.
use Rattle.index_job.proofs.Words.{◌≡◌, ◌∙◌, Bool, true, false, refl, sym, subst, arith, Result, Ok, Err, CutFault, Event, Progress, Advances, ComingEvents, Line, TakesKnown, event_with_line, still_known, JobFault, ReadsSource, is_source_failure, Option}
use Rattle.std.specs.Borrow.{MutBor}
use Rattle.mbox_cutter.specs.declared.device.Source.{Ghosts}
use Rattle.mbox_cutter.specs.declared.event.CutFault.TheVariants as cut
use Rattle.mbox_cutter.specs.declared.event.Event.TheVariants as event
use Rattle.mbox_cutter.proofs.Sources.{Stays-self, Stays-join}
use Rattle.mbox_cutter.specs.declared.digested.Digested.{Digested}
use Rattle.std.specs.Prelude.{ℕ, List, ◌∷◌}
use Rattle.index_job.specs.declared.job_fault.JobFault.TheVariants as job

-- ---- whether the source failed

abbrev pub says_failure : JobFault → Bool
says_failure (job.Cut cut.Device) = true
says_failure _ = false

failure-is : {T : Type 0} (r : Result T JobFault) (f : JobFault) → r ≡ Err f → is_source_failure r ≡ says_failure f
failure-is {T = T} r f is = cc

-- ---- reads

module _ {S : Type 0} (g : Ghosts S) where
  pub reads-none : (s : MutBor S) → ReadsSource g false s s
  reads-none s = record { source = refl; stays = Stays-self g s.now; count = refl }

  pub reads-join : (failed : Bool) (a b c : MutBor S) → ReadsSource g false a b → ReadsSource g failed b c
      → ReadsSource g failed a c
  reads-join failed a b c h h2 = grind (arith, Stays-join)

  module _ {U : Type 0} (q : Result U JobFault) where
    -- a fault is passed on
    pub reads-passed : {T : Type 0} (r : Result T JobFault) (f : JobFault) (a b : MutBor S) → r ≡ Err f → q ≡ Err f
        → ReadsSource g (is_source_failure r) a b → ReadsSource g (is_source_failure q) a b
    reads-passed r f a b was is h = subst (λ x. ReadsSource g x a b) (failure-is r f was ∙ sym (failure-is q f is)) h

  -- an event that the cutter reports is the first that was to come, if that is known
  pub event-takes : (old new : Progress S) (r : Result Event CutFault) (e : Event) → r ≡ Ok e → Advances g old r new
      → (comes : Option ComingEvents) → still_known old.coming (g.rest new.source.now) ≡ comes
      → TakesKnown (event_with_line new.line e) comes new.coming
  event-takes old new r e is h comes known = grind arith

  -- a line that it reports is that line
  pub line-takes : (old new : Progress S) (r : Result Event CutFault) → r ≡ Ok event.Line → Advances g old r new
      → (line : List ℕ) → line ≡ new.line
      → TakesKnown (Line line) (still_known old.coming (g.rest new.source.now)) new.coming
  line-takes old new r is h line same = grind (arith, event-takes)

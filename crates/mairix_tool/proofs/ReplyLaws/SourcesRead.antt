-- What a run leaves of its sources: it reads them only to index them.
use Rattle.mairix_tool.proofs.Words.{◌≡◌, ℕ, List, None, Some, Result, Ok, Err, IfErr, refl, All-nil, Fault}
use Rattle.mbox_cutter.specs.declared.device.Source.{Ghosts}
use Rattle.run_faults.specs.Faults.{IsEarly, IsOfAnswer, fault_in}
use Rattle.run_faults.specs.declared.fault.Fault.TheVariants.{Usage, Rc, Query, Archive, Index, OldIndex, Stale, Device, Out, Memory, TooMany}
use Rattle.index_run.specs.SourcesStay.{AreReadToEnd, SourcesStay}
use Rattle.index_run.proofs.KeptSources.{stay-self}

none-of : (all : ℕ) (fault : Fault) → IsEarly fault → AreReadToEnd (Some fault) all 0
none-of all (Usage fault) early = tt
none-of all (Rc fault) early = tt
none-of all (Query fault) early = tt
none-of all (Archive number fault) early = absurd early
none-of all (Index fault) early = tt
none-of all OldIndex early = tt
none-of all (Stale number) early = tt
none-of all Device early = tt
none-of all Out early = absurd early
none-of all Memory early = tt
none-of all TooMany early = tt

all-of : {T : Type 0} (all read : ℕ) (r : Result T Fault) → IfErr r IsOfAnswer → read ≡ all
    → AreReadToEnd (fault_in r) all read
all-of all read (Ok n) own same = same
all-of all read (Err (Usage fault)) own same = tt
all-of all read (Err (Rc fault)) own same = tt
all-of all read (Err (Query fault)) own same = tt
all-of all read (Err (Archive number fault)) own same = absurd own
all-of all read (Err (Index fault)) own same = tt
all-of all read (Err OldIndex) own same = tt
all-of all read (Err (Stale number)) own same = tt
all-of all read (Err Device) own same = tt
all-of all read (Err Out) own same = same
all-of all read (Err Memory) own same = tt
all-of all read (Err TooMany) own same = tt

module _ {S : Type 0} (g : Ghosts S) (old new : List S) where
  -- a run that is refused early reads none
  pub none-read : (fault : Fault) → IsEarly fault → SourcesStay g (Some fault) old old
  none-read fault early = record {
    each = stay-self g _;
    read = 0;
    ends = All-nil _;
    many = none-of _ _ early;
    unread = refl;
  }

  -- a search reads none after they are indexed
  pub still-read : {T : Type 0} (r : Result T Fault) → IfErr r IsOfAnswer → SourcesStay g None old new
      → SourcesStay g (fault_in r) old new
  still-read r own stays = record {
    each = stays.each;
    read = stays.read;
    ends = stays.ends;
    many = all-of _ _ r own stays.many;
    unread = stays.unread;
  }

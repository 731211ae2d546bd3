-- Laws of sources that are indexed one after another: each stays what it was, those before the next one have been read
-- to their ends, and those after it haven't been read.
use Rattle.index_run.proofs.Words.{◌≡◌, ◌∙◌, ◌+◌, ◌<◌, ℕ, zero, suc, List, [], ◌∷◌, length, All, take, drop, get_or, None, Some, refl, sym, ap, subst, All-append, All-cons, All-nil, run_fault_of_job}
use Rattle.std.proofs.Math.ListN.{set}
use Rattle.std.proofs.lemmas.List.{drop-drop, take-set, take_more_set}
use Rattle.std.specs.List.{AllZip}
use Rattle.std.specs.Io.KnownBytes.{IsAtEnd}
use Rattle.contract_words.proofs.DeviceLists.{same_after}
use Rattle.mbox_cutter.specs.declared.device.Source.{Ghosts}
use Rattle.mbox_cutter.specs.Sources.{Stays}
use Rattle.mbox_cutter.proofs.Sources.{Stays-self, Stays-join}
use Rattle.index_job.specs.declared.job_fault.JobFault.{JobFault}
use Rattle.index_job.specs.declared.job_fault.JobFault.TheVariants as job
use Rattle.run_faults.specs.declared.fault.Fault.TheVariants.{Memory}
use Rattle.index_run.specs.SourcesStay.{AreReadToEnd, SourcesStay}

-- a fault at an archive says that those before it are read, if it says how many are
are-read : (all i : ℕ) (f : JobFault) → AreReadToEnd (Some (run_fault_of_job i f)) all i
are-read all i (job.Cut f) = refl
are-read all i job.OutOfMemory = tt
are-read all i job.TooMany = tt
are-read all i job.Failed = refl

module _ {S : Type 0} (g : Ghosts S) where
  -- sources that nobody has read are what they were
  pub stay-self : (xs : List S) → AllZip (Stays g) xs xs
  stay-self [] = tt
  stay-self (x ∷ xs) = (Stays-self g x, stay-self xs)

  -- one more source is read
  pub next-stays : (xs ys : List S) (i : ℕ) (v d : S) → AllZip (Stays g) xs ys → Stays g (get_or ys i d) v
      → AllZip (Stays g) xs (set ys i v)
  next-stays [] [] i v d all h = tt
  next-stays [] (y ∷ ys) i v d all h = absurd all
  next-stays (x ∷ xs) [] i v d all h = absurd all
  next-stays (x ∷ xs) (y ∷ ys) zero v d all h = (Stays-join g x y v all.0 h, all.1)
  next-stays (x ∷ xs) (y ∷ ys) (suc i) v d all h = (all.0, next-stays xs ys i v d all.1 h)

  abbrev Ends : S → Type 0
  Ends s = IsAtEnd (g.rest s)

  -- it is read to its end
  pub next-ends : (ys : List S) (i : ℕ) (v : S) → i < length ys → All Ends (take i ys) → IsAtEnd (g.rest v)
      → All Ends (take (i + 1) (set ys i v))
  next-ends ys i v below all h =
      subst (λ l. All Ends l) (sym (take_more_set ys i v below))
      (All-append Ends (take i ys) (v ∷ []) all (All-cons Ends v [] h (All-nil Ends)))

  -- there was no memory before the first read
  pub none-read : (xs : List S) → SourcesStay g (Some Memory) xs xs
  none-read xs = record { each = stay-self xs; read = 0; ends = All-nil Ends; many = tt; unread = refl }

  -- an archive is at fault
  pub stopped : (xs ys : List S) (i : ℕ) (v d : S) (f : JobFault) → AllZip (Stays g) xs ys → Stays g (get_or ys i d) v
      → All Ends (take i ys) → drop i ys ≡ drop i xs → SourcesStay g (Some (run_fault_of_job i f)) xs (set ys i v)
  stopped xs ys i v d f all h ends unread = record {
    each = next-stays xs ys i v d all h;
    read = i;
    ends = subst (λ l. All Ends l) (sym (take-set ys i v)) ends;
    many = are-read (length xs) i f;
    unread = same_after ys xs i v unread;
  }

  -- all of them are read
  pub all-read : (xs ys : List S) (i : ℕ) → AllZip (Stays g) xs ys → All Ends (take i ys) → drop i ys ≡ drop i xs
      → length xs ≡ i → SourcesStay g None xs ys
  all-read xs ys i all ends unread whole = record {
    each = all;
    read = i;
    ends = ends;
    many = sym whole;
    unread = sym (drop-drop 1 i ys) ∙ ap (λ l. drop 1 l) unread ∙ drop-drop 1 i xs;
  }

-- Laws of archives indexed one after another: what is known so far, and which source has failed.
use Rattle.index_run.proofs.Words.{◌≡◌, ◌∙◌, ◌+◌, ◌<◌, ◌≤◌, ◌++◌, ℕ, zero, suc, List, [], ◌∷◌, length, take, drop, get_or, None, Some, false, inl, inr, refl, sym, ap, arith, drop-cons, take_more, take-append-drop, length-take-le, All-append, All-cons, All-nil, Job, archive_refusal, Mbox, most_in_archive, AreSound, mboxes, Parted, IsArchivesFault, run_fault_of_job, IsAdded, IsAddFault, Err, ◌≢◌, eqb_tells, is_failed_source}
use Rattle.mbox_cutter.specs.declared.event.CutFault.TheVariants as cut
use Rattle.index_job.specs.declared.job_fault.JobFault.{JobFault}
use Rattle.index_job.specs.declared.job_fault.JobFault.TheVariants as job
use Rattle.contract_words.specs.Devices.{Counted}
use Rattle.index_job.specs.JobFaults.{is_source_failure}

pub mboxes-length : (paths bytes : List (List ℕ)) → length paths ≡ length bytes → length (mboxes paths bytes)
    ≡ length paths
mboxes-length [] bytes same = refl
mboxes-length (p ∷ paths) [] same = absurd (omega (arith, same))
mboxes-length (p ∷ paths) (b ∷ bytes) same = let rest : length paths ≡ length bytes = omega (arith, same)
    in ap suc (mboxes-length paths bytes rest)

mbox-at : (paths bytes : List (List ℕ)) (i : ℕ) (d : Mbox) → i < length paths → i < length bytes
    → get_or (mboxes paths bytes) i d ≡ record { path = get_or paths i []; bytes = get_or bytes i [] }
mbox-at [] bytes i d below here = absurd (omega arith)
mbox-at (p ∷ paths) [] i d below here = absurd (omega arith)
mbox-at (p ∷ paths) (b ∷ bytes) zero d below here = refl
mbox-at (p ∷ paths) (b ∷ bytes) (suc i) d below here =
    let low : i < length paths = omega arith in let low' : i < length bytes = omega arith
    in mbox-at paths bytes i d low low'

module _ (paths bytes : List (List ℕ)) (i : ℕ) (same : length paths ≡ length bytes) (below : i < length paths) where
  abbrev here : Mbox
  here = record { path = get_or paths i []; bytes = get_or bytes i [] }

  inside : i < length (mboxes paths bytes)
  inside = omega (arith, mboxes-length paths bytes same)

  at-here : (d : Mbox) → get_or (mboxes paths bytes) i d
      ≡ record { path = get_or paths i []; bytes = get_or bytes i [] }
  at-here d = let low : i < length bytes = omega (arith, same) in mbox-at paths bytes i d below low

  pub next-taken : take (i + 1) (mboxes paths bytes)
      ≡ take i (mboxes paths bytes) ++ record { path = get_or paths i []; bytes = get_or bytes i [] } ∷ []
  next-taken = take_more (mboxes paths bytes) i here inside
      ∙ ap (λ x. take i (mboxes paths bytes) ++ x ∷ []) (at-here here)

  pub parted-here : Parted (mboxes paths bytes) (take i (mboxes paths bytes))
      (record { path = get_or paths i []; bytes = get_or bytes i [] })
  parted-here = record {
    after = drop (suc i) (mboxes paths bytes);
    whole = sym (take-append-drop i (mboxes paths bytes))
        ∙ ap (λ l. take i (mboxes paths bytes) ++ l)
        (drop-cons (mboxes paths bytes) i here inside
        ∙ ap (λ x. x ∷ drop (suc i) (mboxes paths bytes)) (at-here here));
  }

  pub taken-so-far : length (take i (mboxes paths bytes)) ≡ i
  taken-so-far = let within : i ≤ length (mboxes paths bytes) = omega (arith, inside)
      in length-take-le i (mboxes paths bytes) within

-- sound archives, with one more that isn't refused, are sound
pub sound-more : (before : List Mbox) (a : Mbox) (n : ℕ) (j : Job) → AreSound before → IsAdded before a n j
    → AreSound (before ++ a ∷ [])
sound-more before a n j sound added = record {
  each = All-append (λ (b : Mbox). archive_refusal most_in_archive b.bytes ≡ None) before (a ∷ []) sound.each
      (All-cons (λ (b : Mbox). archive_refusal most_in_archive b.bytes ≡ None) a [] added.sound
      (All-nil (λ (b : Mbox). archive_refusal most_in_archive b.bytes ≡ None)));
  few = added.within;
}

-- a fault at one archive is a fault of all of them
pub archive-fault : (archives before : List Mbox) (a : Mbox) (number : ℕ) (f : JobFault) → Parted archives before a
    → number ≡ length before → AreSound before → IsAddFault before a f
    → IsArchivesFault archives (run_fault_of_job number f)
archive-fault archives before a number (job.Cut cut.Device) parted same sound h = (before, a, parted, same, sound)
archive-fault archives before a number (job.Cut cut.NotAnMbox) parted same sound h =
    (before, a, parted, same, record { sound = sound; few = h.0; refused = h.1 })
archive-fault archives before a number (job.Cut cut.ArchiveTooLong) parted same sound h =
    (before, a, parted, same, record { sound = sound; few = h.0; refused = h.1 })
archive-fault archives before a number (job.Cut cut.Failed) parted same sound h = elim h [ ]
archive-fault archives before a number job.OutOfMemory parted same sound h = tt
archive-fault archives before a number job.TooMany parted same sound h =
    (before, a, parted, record { sound = sound; much = h })
archive-fault archives before a number job.Failed parted same sound h = elim h [ ]

-- ---- which source has failed

-- a fault at one archive isn't a failure of another archive's source
pub others-run : (i : ℕ) (f : JobFault) (n : ℕ) → n ≢ i → is_failed_source n (Some (run_fault_of_job i f)) ≡ false
others-run i (job.Cut cut.Device) n ne = elim (eqb_tells n i) [ inl p ↦ absurd (ne p.1) | inr p ↦ p.0 ]
others-run i (job.Cut cut.NotAnMbox) n ne = refl
others-run i (job.Cut cut.ArchiveTooLong) n ne = refl
others-run i (job.Cut cut.Failed) n ne = refl
others-run i job.OutOfMemory n ne = refl
others-run i job.TooMany n ne = refl
others-run i job.Failed n ne = refl

-- a fault at one archive is a failure of its source exactly if the job reports it
pub here-counts : (i : ℕ) (f : JobFault) (old new : ℕ) → Counted (is_source_failure {T = ℕ} (Err f)) old new
    → Counted (is_failed_source i (Some (run_fault_of_job i f))) old new
here-counts i (job.Cut cut.Device) old new h = elim (eqb_tells i i) [ inl p ↦ rw p.0 h | inr p ↦ absurd (p.1 refl) ]
here-counts i (job.Cut cut.NotAnMbox) old new h = h
here-counts i (job.Cut cut.ArchiveTooLong) old new h = h
here-counts i (job.Cut cut.Failed) old new h = h
here-counts i job.OutOfMemory old new h = h
here-counts i job.TooMany old new h = h
here-counts i job.Failed old new h = h

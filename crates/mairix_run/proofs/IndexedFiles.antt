-- What an index run did, by what was sent and how failures of sources were counted.
use Rattle.std.proofs.Common.{◌≡◌, ◌∙◌, ◌<◌, ◌+◌, ℕ, zero, suc, Bool, true, nat_eq, List, [], ◌∷◌, length, map, Option, Some, Result, Ok, Err, IfErr, OnOk, refl, ap, subst, arith, slice_index}
use Rattle.std.proofs.lemmas.Bool.Decides.{nat_tests}
use Rattle.std.proofs.lemmas.List.{length-map}
use Rattle.std.specs.Bool.{⊤, OnFalse, OnTrue}
use Rattle.std.specs.Io.KnownBytes.{Appends}
use Rattle.std.specs.Result.{MatchResult, result_and}
use Rattle.contract_words.specs.Devices.{Counted, Sends}
use Rattle.index_job.specs.ArchiveRefusals.{AreSound}
use Rattle.index_job.specs.ArchiveTables.{Mbox, table}
use Rattle.index_run.specs.ArchivesIndexed.{mboxes}
use Rattle.index_run.specs.IndexRuns.{IsIndexRunFault}
use Rattle.mail_index.specs.Files.{index_file}
use Rattle.mail_index.specs.Tables.{IsWellFormed, Table}
use Rattle.mairix_run.proofs.UnreadArchives.{with_status}
use Rattle.mairix_run.specs.Answered.{is_unread, result_with_memory}
use Rattle.mairix_run.specs.Indexed.{IndexesFiles, IsIndexRunResult}
use Rattle.mbox_cutter.specs.declared.device.Out.{Ghosts}
use Rattle.mbox_cutter.specs.declared.event.CutFault.TheVariants.{Device}
use Rattle.run_faults.specs.Faults.{IsOfIndexing, fault_in, is_failed_out, is_failed_source}
use Rattle.run_faults.specs.declared.fault.Fault.{Fault}
use Rattle.run_faults.specs.declared.fault.Fault.TheVariants.{Archive}

-- ---- lengths

pub same-length : {A B C : Type 0} (f : A → C) (h : B → C) (xs : List A) (ys : List B) → map f xs ≡ map h ys
    → length xs ≡ length ys
same-length f h xs ys e = grind (arith, length-map)

-- there are as many archives as paths
pub mboxes-length : (paths bytes : List (List ℕ)) → length bytes ≡ length paths
    → length (mboxes paths bytes) ≡ length paths
mboxes-length [] bytes long = refl
mboxes-length (path ∷ paths) [] long = absurd (omega (arith, long))
mboxes-length (path ∷ paths) (b ∷ bytes) long = ap suc (mboxes-length paths bytes (omega (arith, long)))

-- ---- what was sent

-- a count that rose is that of a source
counted-below : (counts : List ℕ) (n : ℕ) → slice_index counts n ≡ 1 → n < length counts
counted-below [] zero is = absurd cc
counted-below [] (suc n) is = absurd cc
counted-below (count ∷ counts) zero is = omega arith
counted-below (count ∷ counts) (suc n) is = let below = counted-below counts n is in omega arith

-- of counts that were 0, that of the source that failed is 1
pub failed-below : (counts : List ℕ) (number : ℕ)
    → ((n : ℕ) → Counted (nat_eq n number) 0 (slice_index counts n)) → number < length counts
failed-below counts number counted =
    let same : nat_eq number number ≡ true = grind (arith, nat_tests) in
    counted-below counts number (subst (λ b. Counted b 0 (slice_index counts number)) same (counted number))

module _ (archives : List Mbox) (old new : Option (List ℕ)) (counts : List ℕ) where
  abbrev IsSent : Result (Unit {0}) Fault → Type 0
  IsSent sent = MatchResult sent (λ _. AreSound archives × IsWellFormed (table archives)
      × Appends old new (index_file (table archives))) (IsIndexRunFault archives old new)

  -- if nothing failed, what was sent is right; a source that failed is that of an archive
  pub indexed-by : (sent : Result (Unit {0}) Fault) → length counts ≡ length archives
      → ((n : ℕ) → Counted (is_failed_source n (fault_in sent)) 0 (slice_index counts n))
      → (((n : ℕ) → slice_index counts n ≡ 0) → IsSent sent)
      → IsIndexRunResult archives old new (result_and sent (Ok 0))
  indexed-by (Ok done) long counted is = let sent = is counted in (refl, sent.0, sent.2)
  indexed-by (Err (Archive number Device)) long counted is =
      subst (λ k. number < k) long (failed-below counts number counted)
  indexed-by (Err fault) long counted is = is counted

-- ---- lack of memory in place of a failed read

module _ {O : Type 0} (o : Ghosts O) (paths : List (List ℕ)) (files : List (Option (List ℕ))) (AreKnown : Type 0)
    (out out' : O) where
  -- what was sent, with its status
  pub with-status : (sent : Result (Unit {0}) Fault) → ((bytes : List (List ℕ)) → files ≡ map Some bytes → AreKnown
      → IsIndexRunResult (mboxes paths bytes) (o.taken out) (o.taken out') (with_status sent))
      → OnOk sent ((t : Table) × IsWellFormed t × Appends (o.taken out) (o.taken out') (index_file t))
      → OnTrue (is_failed_out (fault_in sent))
      ((t : Table) × IsWellFormed t × Sends (o.taken out) (o.taken out') (index_file t))
      → IfErr sent (λ fault. OnFalse (is_failed_out (Some fault)) (IsOfIndexing fault))
      → IfErr sent (λ fault. OnFalse (is_failed_out (Some fault)) (out' ≡ out))
      → Counted (is_failed_out (fault_in sent)) (o.failures out) (o.failures out')
      → IndexesFiles o paths files AreKnown ⊤ (with_status sent) out out'
  with-status sent by_bytes formed front kinds silent counted = grind arith

  pub indexed-memory : (ReadFails : Type 0) (lacks : Bool) (r result : Result ℕ Fault)
      → result ≡ result_with_memory lacks r
      → ((bytes : List (List ℕ)) → files ≡ map Some bytes → OnTrue (is_unread (fault_in result)) ReadFails)
      → IndexesFiles o paths files AreKnown ⊤ r out out' → IndexesFiles o paths files AreKnown ReadFails result out out'
  indexed-memory ReadFails lacks r result made cause i = grind arith

-- The table of archives with one more archive.
use Rattle.index_job.proofs.Words.{◌≡◌, ◌∙◌, ◌+◌, ◌<◌, ◌++◌, ℕ, suc, List, [], ◌∷◌, length, map, refl, sym, ap, arith, append_assoc, append-nil, ⊎_elim, Result, Ok, Err, false, flat_map-append, length-map, map-append, Draft, IsWithinMost, draft_in_archive, draft_after_archive, messages, coming_of, events, archive_refusal, ReadArchive, JobFault, coming_ahead, AddsMessages, most_in_archive, most_in_index, IsTooMuch, Mbox, messages_in, all_messages, record_of, records_from, with_messages, table, IsAdded, IsAddFault, draft_of_archives, draft_with_messages, HasTooMany, IsIdle}
use Rattle.std.proofs.lemmas.List.{length-append}
use Rattle.index_job.proofs.ArchiveSteps.{with_messages-append}
use Rattle.mail_index.specs.Files.{digest_or_zeros}
use Rattle.mail_index.specs.declared.digests.Digests.{Digests}

-- what is to come of an archive's bytes
pub comes-known : (bytes : List ℕ) → coming_of most_in_archive bytes
    ≡ coming_ahead (length bytes) (messages bytes) (archive_refusal most_in_archive bytes)
unfolding events
comes-known _ = refl

zero_more : (n : ℕ) → 0 + n ≡ n
zero_more n = omega arith

-- ---- each section

records-more : (n : ℕ) (archives : List Mbox) (a : Mbox) → records_from n (archives ++ a ∷ [])
    ≡ records_from n archives ++ map (record_of (n + length archives)) (messages_in a.bytes)
records-more n [] a = append-nil _ ∙ ap (λ k. map (record_of k) (messages_in a.bytes)) (omega arith)
records-more n (b ∷ archives) a = grind (arith, append_assoc, records-more (suc n) archives a)

pub records-count : (n : ℕ) (archives : List Mbox) → length (records_from n archives) ≡ length (all_messages archives)
records-count n [] = refl
records-count n (a ∷ archives) = grind (arith, length-append, length-map, records-count (suc n) archives)

all-more : (archives : List Mbox) (a : Mbox) → all_messages (archives ++ a ∷ [])
    ≡ all_messages archives ++ messages_in a.bytes
all-more _ a = grind (arith, flat_map-append, append-nil)

keys-more : (archives : List Mbox) (a : Mbox)
    → with_messages (length (records_from 0 archives)) (messages_in a.bytes)
    (with_messages 0 (all_messages archives) []) ≡ with_messages 0 (all_messages (archives ++ a ∷ [])) []
keys-more _ a = grind (arith, records-count, zero_more, with_messages-append, all-more)

-- ---- the whole

module _ (digests : Digests) (archives : List Mbox) (a : Mbox) where
  abbrev pub read_draft : Draft
  read_draft = draft_with_messages (length archives) (messages_in a.bytes)
      (draft_in_archive a.path (draft_of_archives digests archives))

  messages-are : read_draft.table.messages ≡ (table (archives ++ a ∷ [])).messages
  messages-are = ap (λ k. records_from 0 archives ++ map (record_of k) (messages_in a.bytes))
      (sym (zero_more (length archives))) ∙ sym (records-more 0 archives a)

  keys-are : read_draft.table.keys ≡ (table (archives ++ a ∷ [])).keys
  keys-are = keys-more archives a

  table-more : draft_after_archive (length a.bytes) (digest_or_zeros digests a.bytes) read_draft
      ≡ draft_of_archives digests (archives ++ a ∷ [])
  table-more = grind (arith, map-append, messages-are, keys-are)

  too-much : HasTooMany read_draft → IsTooMuch (table (archives ++ a ∷ []))
  too-much h = grind (arith, ⊎_elim, messages-are, keys-are)

  module _ (number : ℕ) (same : number ≡ length archives) where
    abbrev Adds : Result ReadArchive JobFault → Draft → Type 0
    Adds r builder = AddsMessages number (draft_in_archive a.path (draft_of_archives digests archives)) (length a.bytes)
        (messages a.bytes)
        (archive_refusal most_in_archive a.bytes) r builder

    -- the archive has ended, with its length and its digest
    pub one-added : (read : ReadArchive) (builder : Draft) (digest : List ℕ) (new : Draft) → Adds (Ok read) builder
        → digest ≡ digest_or_zeros digests a.bytes → new ≡ draft_after_archive read.length digest builder
        → IsWithinMost new → IsAdded archives a read.messages (record { digests = digests; draft = new })
    one-added read builder digest new (sound, is, counted, long) digest-is gives within =
        grind (arith, table-more, length-map)

    pub add-fault : (builder : Draft) (f : JobFault) → length archives < most_in_index → Adds (Err f) builder
        → IsAddFault archives a f
    add-fault builder f room h = grind (arith, too-much)

-- the number of archives that have ended
pub number-is : (digests : Digests) (number : ℕ) (archives : List Mbox) (builder : Draft)
    → builder ≡ draft_of_archives digests archives
    → (builder.failed ≡ false → IsIdle number builder) → number ≡ length archives
number-is _ _ _ _ is idle = grind (arith, length-map)

-- The records of archives are those of a well-formed table.
use Rattle.index_job.proofs.Words.{◌≡◌, ◌∙◌, ◌⊎◌, inl, inr, ℕ, suc, ◌+◌, ◌<◌, ◌≤◌, ◌++◌, List, [], ◌∷◌, length, map, refl, subst, arith, append_assoc, length-append, AllByRecursion, length-map, Record, Archive, archive_length, IsMessage, Follows, AllNext, Message, span_length, Mbox, messages_in, record_of, records_from, entry_of_archive}
use Rattle.index_job.proofs.SoundTables.Dates.{told-fits}
use Rattle.index_job.proofs.SoundTables.Spans.{AreSpanned, messages-spanned}

-- ---- in order

-- the record comes after this place of the archive with this number
abbrev LiesAfter : ℕ → ℕ → Record → Type 0
LiesAfter archive at r = (archive < r.archive) ⊎ ((archive ≡ r.archive) × (at ≤ r.offset))

-- each record comes after the one before it
abbrev AreAfter : ℕ → ℕ → List Record → Type 0
AreAfter archive at [] = Unit {0}
AreAfter archive at (r ∷ rs) = LiesAfter archive at r × AreAfter r.archive (r.offset + r.length) rs

each-next : (archive at : ℕ) (rs : List Record) → AreAfter archive at rs → AllNext Follows rs
each-next _ _ [] h = tt
each-next _ _ (r ∷ []) h = tt
each-next archive _ (r ∷ s ∷ rs) h = (h.1.0, each-next r.archive (r.offset + r.length) (s ∷ rs) h.1)

-- the records of one archive's messages, and then those of later archives
one-after : (n at end : ℕ) (ms : List Message) (rest : List Record) → AreSpanned at end ms
    → ((place : ℕ) → AreAfter n place rest) → AreAfter n at (map (record_of n) ms ++ rest)
one-after n at _ [] _ _ later = later at
one-after n _ end (m ∷ ms) rest spanned later =
    (inr (refl, spanned.0), one-after n (m.offset + span_length m) end ms rest spanned.3 later)

-- the records of archives with numbers from n on, after a place in an earlier archive or at the beginning
all-after : (n : ℕ) (archives : List Mbox) (archive at : ℕ) → (archive < n) ⊎ ((archive ≡ n) × (at ≡ 0))
    → AreAfter archive at (records_from n archives)
all-after n [] _ _ _ = tt
all-after n (a ∷ archives) archive at before =
    go _ (messages-spanned _) (λ k place low. all-after (suc n) archives k place (inl (omega arith))) before
  where
    go : (ms : List Message) → AreSpanned 0 (length a.bytes) ms
        → ((k place : ℕ) → k ≤ n → AreAfter k place (records_from (suc n) archives)) → (archive < n)
        ⊎ ((archive ≡ n) × (at ≡ 0))
        → AreAfter archive at (map (record_of n) ms ++ records_from (suc n) archives)
    go [] spanned later (inl low) = later archive at (omega arith)
    go [] spanned later (inr same) = later archive at (omega arith)
    go (m ∷ ms) spanned later (inl low) = (
      inl low,
      one-after n _ _ _ _ spanned.3 (λ place. later n place (omega arith)),
    )
    go (m ∷ ms) spanned later (inr same) = (
      inr (same.0, omega arith),
      one-after n _ _ _ _ spanned.3 (λ place. later n place (omega arith)),
    )

pub records-in-order : (archives : List Mbox) → AllNext Follows (records_from 0 archives)
records-in-order archives = each-next 0 0 _ (all-after 0 _ 0 0 (inr (refl, refl)))

-- ---- within their archives

joined-records : (P : Record → Type 0) (rs ss : List Record) → AllByRecursion P rs → AllByRecursion P ss
    → AllByRecursion P (rs ++ ss)
joined-records P [] _ _ there = there
joined-records P (r ∷ rs) ss here there = (here.0, joined-records P rs ss here.1 there)

length-of : (before : List Mbox) (a : Mbox) (archives : List Mbox)
    → archive_length (map entry_of_archive (before ++ a ∷ archives)) (length before) ≡ length a.bytes
length-of [] a _ = refl
length-of (b ∷ before) a archives = length-of before a archives

one-placed : (named : List Archive) (n end : ℕ) → n < length named → archive_length named n ≡ end
    → (at : ℕ) (ms : List Message) → AreSpanned at end ms → AllByRecursion (IsMessage named) (map (record_of n) ms)
one-placed _ n _ _ _ _ [] _ = tt
one-placed named n end there long _ (m ∷ ms) spanned =
    grind (arith, told-fits, one-placed named n end there long (m.offset + span_length m) ms spanned.3)

all-placed : (n : ℕ) (before archives : List Mbox) → length before ≡ n
    → AllByRecursion (IsMessage (map entry_of_archive (before ++ archives))) (records_from n archives)
all-placed n before [] long = tt
all-placed n before (a ∷ archives) long =
    let all : List Mbox = before ++ a ∷ archives in
    let there : n < length (map entry_of_archive all) =
    omega (arith, length-map all entry_of_archive, length-append before (a ∷ archives), long) in
    let ends : archive_length (map entry_of_archive all) n ≡ length a.bytes = cc (length-of before a archives) in
    let rest : AllByRecursion (IsMessage (map entry_of_archive ((before ++ a ∷ []) ++ archives)))
    (records_from (suc n) archives) =
    all-placed (suc n) (before ++ a ∷ []) archives (omega (arith, length-append before (a ∷ []), long)) in
    joined-records (IsMessage (map entry_of_archive all)) (map (record_of n) (messages_in a.bytes))
    (records_from (suc n) archives) (one-placed (map entry_of_archive all) n (length a.bytes) there ends 0
    (messages_in a.bytes) (messages-spanned a.bytes))
    (subst (λ (l : List Mbox). AllByRecursion (IsMessage (map entry_of_archive l)) (records_from (suc n) archives))
    (append_assoc before (a ∷ []) archives) rest)

pub records-placed : (archives : List Mbox)
    → AllByRecursion (IsMessage (map entry_of_archive archives)) (records_from 0 archives)
records-placed archives = all-placed 0 [] _ refl

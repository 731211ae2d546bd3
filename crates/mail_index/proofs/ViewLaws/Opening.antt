-- What the walks over the sections find in a file is what its table has, and they refuse nothing of a table's file.
use Rattle.mail_index.proofs.Words.{◌≡◌, ℕ, zero, suc, ◌+◌, ◌*◌, ◌^◌, ◌<◌, List, [], ◌∷◌, length, map, drop, refl, ap, ◌∙◌, arith, length-append, flat_map, AllByRecursion, Some, slice_get, drop-drop, Record, DirectoryEntry, entry_of_key, entry_bytes, archive_bytes, record_bytes, directory_from, Archive, Key, IsArchive, IsKey, AllNext, KeyBefore, RisesFrom, postings, postings_from, IsEntry, EntryBefore, read_archives, SpellsArchives, read_record, read_records, read_entry, read_entries, numbers_read, IsList, AreLists, key_of}
use Rattle.mail_index.proofs.Items.{all-weaker}
use Rattle.mail_index.proofs.ViewLaws.ArchiveReads.{archives_back}
use Rattle.mail_index.proofs.FileLaws.RecordFronts.{leb_some}
use Rattle.mail_index.proofs.ViewLaws.PostingReadLemmas.{read-posted}

-- ---- archives

pub spells_these : (version count : ℕ) (s : List ℕ) (archives : List Archive) → s ≡ flat_map archive_bytes archives
    → length archives ≡ count → AllByRecursion (IsArchive version) archives
    → (read_archives version count s ≡ archives) × SpellsArchives version count s
spells_these _ _ s _ e l h = grind (arith, read_archives, archives_back, flat_map, archive_bytes)

-- ---- counts of records and of entries

pub length_records : (ms : List Record) → length (flat_map record_bytes ms) ≡ 40 * length ms
length_records [] = refl
length_records (m ∷ ms) = omega (arith, length-append (record_bytes m) (flat_map record_bytes ms), length_records ms)

pub length_directory : (tp pp : ℕ) (es : List DirectoryEntry) → length (directory_from tp pp es) ≡ 24 * length es
length_directory _ _ [] = refl
length_directory tp pp (e ∷ es) = grind (
  arith,
  directory_from,
  length-append,
  entry_bytes,
  length_directory (tp + length e.text) (pp + length e.postings) es,
)

pub count_records : (n : ℕ) (r : List ℕ) → length (read_records n r) ≡ n
count_records zero r = refl
count_records (suc n) r = ap suc (count_records n (drop 40 r))

pub count_entries : (texts postings : List ℕ) (n : ℕ) (d : List ℕ) → length (read_entries texts postings n d) ≡ n
count_entries _ postings zero d = refl
count_entries texts postings (suc n) d = ap suc (count_entries texts postings n (drop 24 d))

-- ---- keys

some_numbers : (bytes ns : List ℕ) → bytes ≡ postings_from 0 ns → 0 < length bytes → 0 < length ns
some_numbers _ [] e l = absurd (omega (arith, ap length e))
some_numbers _ (n ∷ ns) e l = omega arith

-- the numbers that are read from a list
pub record ReadsList (messages : ℕ) (list : List ℕ) : Type 0 where
  pub spelled : postings (numbers_read 0 list) ≡ list
  pub some : 0 < length (numbers_read 0 list)
  pub rises : RisesFrom 0 (numbers_read 0 list)
  pub below : AllByRecursion (λ n. n < messages) (numbers_read 0 list)

pub reads_list : (messages : ℕ) (list : List ℕ) → messages < 2 ^ 32 → IsList messages list → ReadsList messages list
reads_list _ _ l h = grind (arith, numbers_read, read-posted, all-weaker, postings, some_numbers)

-- the keys that are read from entries
pub record ReadsKeys (version messages : ℕ) (es : List DirectoryEntry) : Type 0 where
  pub spelled : map entry_of_key (map key_of es) ≡ es
  pub each : AllByRecursion (IsKey version messages) (map key_of es)

pub reads_keys : (version messages : ℕ) (es : List DirectoryEntry) → messages < 2 ^ 32
    → AllByRecursion (IsEntry version) es
    → AllByRecursion (λ e. IsList messages e.postings) es → ReadsKeys version messages es
reads_keys _ _ [] l h p = record { spelled = refl; each = tt }
reads_keys version messages (e ∷ es) l h p =
    let r = reads_list _ _ l p.0 in
    let more = reads_keys version messages es l h.1 p.1 in
    let head : entry_of_key (key_of e) ≡ e = λ i. record { kind = e.kind; text = e.text; postings = r.spelled i } in
    grind arith

pub lists_of : (messages : ℕ) (texts ps : List ℕ) (n : ℕ) (d : List ℕ) → AreLists messages ps n d
    → AllByRecursion (λ e. IsList messages e.postings) (read_entries texts ps n d)
unfolding read_entry
lists_of _ _ _ zero d h = tt
lists_of messages texts ps (suc n) d h = (h.0, lists_of messages texts ps n (drop 24 d) h.1)

pub are_lists : (messages : ℕ) (texts ps : List ℕ) (n : ℕ) (d : List ℕ)
    → AllByRecursion (λ e. IsList messages e.postings) (read_entries texts ps n d) → AreLists messages ps n d
unfolding read_entry
are_lists _ _ _ zero d h = tt
are_lists messages texts ps (suc n) d h = (h.0, are_lists messages texts ps n (drop 24 d) h.1)

pub some_postings : (ns : List ℕ) → 0 < length ns → 0 < length (postings ns)
some_postings [] l = absurd (omega arith)
some_postings (n ∷ ns) l = grind (arith, postings, leb_some, postings_from)

pub lists_of_keys : (version messages : ℕ) (ks : List Key) → AllByRecursion (IsKey version messages) ks
    → AllByRecursion (λ e. IsList messages e.postings) (map entry_of_key ks)
lists_of_keys _ _ [] h = tt
lists_of_keys version messages (k ∷ ks) h = grind (arith, some_postings, lists_of_keys version messages ks h.1)

pub keys_in_order : (ks : List Key) → AllNext EntryBefore (map entry_of_key ks) → AllNext KeyBefore ks
keys_in_order [] h = tt
keys_in_order (k ∷ []) h = tt
keys_in_order (k ∷ l ∷ ks) h = (h.0, keys_in_order (l ∷ ks) h.1)

pub message_at : (count n : ℕ) (r : List ℕ) → n < count → slice_get (read_records count r) n
    ≡ Some (read_record (drop (40 * n) r))
message_at zero n r l = absurd (omega arith)
message_at (suc count) zero r l = cc
message_at (suc count) (suc n) r l =
    let e : 40 + 40 * n ≡ 40 * suc n = omega arith in
    message_at count n (drop 40 r) (omega arith)
    ∙ ap (λ (x : List ℕ). Some (read_record x)) (drop-drop _ _ r ∙ ap (λ (k : ℕ). drop k r) e)

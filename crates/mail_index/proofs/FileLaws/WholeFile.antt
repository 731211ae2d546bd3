-- A file whose sections are those of a table is the file of that table: its sections are its parts in order.
use Rattle.mail_index.proofs.Words.{◌≡◌, ℕ, ◌+◌, ◌-◌, ◌^◌, ◌<◌, ◌≤◌, List, [], ◌∷◌, ◌++◌, length, map, take, drop, refl, sym, ap, subst, ◌∙◌, arith, length-drop, length-append, length-map, transport, flat_map, slice_range, AllByRecursion, concat, take-append-drop, drop-drop, version_number, magic, be32, be64, DirectoryEntry, entry_of_key, entries, archive_section, record_bytes, directory_from, texts_of, postings_of, counts, sections, body, index_file, Key, IsArchive, IsWellFormed, IsEntry, IsSigned, records_start, directory_start, texts_start, postings_start, digest_start, HasDigest, HasDirectory, HasPostings, IsFileOfTable, SpellsArchives, AreRecords, AreEntries, read_entries, IsList, AreLists, IsLayout, IsChecked, table_of, key_of}
use Rattle.sha2.specs.Sha256.{sha256}
use Rattle.mail_index.specs.declared.view.layout.Layout.{Layout}
use Rattle.mail_index.proofs.FileLaws.Fronts.{before, concat_then, split}
use Rattle.mail_index.proofs.FileLaws.Bytes.{AreBytes, length_part, u32_back, u64_back}
use Rattle.mail_index.proofs.ViewLaws.ArchiveReads.{read_count}
use Rattle.mail_index.proofs.ViewLaws.DirectorySections.{u32_small, shows_entries, entries_back, are_entries_of, IsAhead, are_after, sorted}
use Rattle.mail_index.proofs.ViewLaws.Opening.{length_directory, count_records, count_entries, reads_keys, lists_of, are_lists, lists_of_keys, keys_in_order}
use Rattle.mail_index.proofs.FileLaws.FileLemmas.{IsLaidOut, section_length, section_bytes, record_section, directory_section, has_records}

pub laid_out : (bytes : List ℕ) (l : Layout) → IsSigned bytes → IsLayout bytes l → AreBytes bytes → IsLaidOut bytes l
laid_out bytes l s y b = record {
  counts = (s, y.adds_up);
  layout = y;
  are_bytes = b;
  few = y.few;
  few_archives = omega (arith, u32_small);
  few_messages = omega (arith, u32_small);
  few_keys = omega (arith, u32_small);
}

-- the archives and the records keep their rules
pub record HoldsRecords (l : Layout) : Type 0 where
  pub archives : SpellsArchives (version_number l.version) l.archive_count l.archives.now
  pub records : AreRecords (version_number l.version) l.archive_count 0 0 l.archives.now l.message_count l.records.now

abbrev pub entries_of : Layout → List DirectoryEntry
entries_of l = read_entries l.texts.now l.postings.now l.key_count l.directory.now

pub has_directory : (bytes : List ℕ) (l : Layout) → IsLaidOut bytes l → HoldsRecords l
    → AreEntries (version_number l.version) l.texts.now (length l.postings.now) 0 0 0 [] l.key_count l.directory.now
    → HasDirectory bytes (table_of l).archives (table_of l).messages (entries_of l)
has_directory _ l f r h = grind (
  arith,
  shows_entries,
  version_number,
  section_bytes,
  directory_start,
  texts_start,
  directory_section,
  before,
  has_records,
  sorted,
)

few_section : (i j : ℕ) (xs ys : List ℕ) → ys ≡ slice_range xs i j → i ≤ j → j ≤ length xs → length xs < 2 ^ 64
    → length ys < 2 ^ 64
few_section i j xs _ e l m n = omega (arith, ap length e, section_length)

ahead_of : (bytes : List ℕ) (l : Layout) → IsLaidOut bytes l → (es : List DirectoryEntry)
    → HasDirectory bytes (table_of l).archives (table_of l).messages es → IsAhead l.texts.now l.postings.now 0 0 es
ahead_of _ l f _ h = grind (arith, few_section)

counted : (bytes : List ℕ) (l : Layout) → IsLaidOut bytes l → (es : List DirectoryEntry)
    → HasDirectory bytes (table_of l).archives (table_of l).messages es → length es ≡ l.key_count
counted bytes l f es h = omega (arith, ap length (f.layout.directory ∙ h.spelled), length_directory, directory_section)

pub these_entries : (bytes : List ℕ) (l : Layout) → IsLaidOut bytes l → (es : List DirectoryEntry)
    → HasDirectory bytes (table_of l).archives (table_of l).messages es
    → AreEntries (version_number l.version) l.texts.now (length l.postings.now) 0 0 0 [] l.key_count l.directory.now
these_entries bytes l f es h =
    let a = are_entries_of _ _ _ 0 0 0 _ _
    (subst (λ (v : ℕ). AllByRecursion (IsEntry v) es) (sym f.layout.version) h.each) (ahead_of _ l f _ h)
    (are_after _ h.sorted) in
    transport (λ i. AreEntries (version_number l.version) l.texts.now (length l.postings.now) 0 0 0 []
    ((counted _ l f _ h) i) ((sym (f.layout.directory ∙ h.spelled)) i)) a

pub has_postings : (bytes : List ℕ) (l : Layout) → IsLaidOut bytes l → HoldsRecords l
    → AreEntries (version_number l.version) l.texts.now (length l.postings.now) 0 0 0 [] l.key_count l.directory.now
    → AreLists l.message_count l.postings.now l.key_count l.directory.now
    → HasPostings bytes (table_of l).archives (table_of l).messages (table_of l).keys
has_postings bytes l f r h p =
    let d = has_directory _ l f r h in
    let k = reads_keys _ _ _ f.few_messages d.each (lists_of _ _ _ _ _ p) in
    record {
      before = rw k.spelled d;
      each = rw (count_records _ _) k.each;
    }

pub these_lists : (bytes : List ℕ) (l : Layout) → IsLaidOut bytes l → (ks : List Key)
    → HasPostings bytes (table_of l).archives (table_of l).messages ks
    → AreLists l.message_count l.postings.now l.key_count l.directory.now
these_lists bytes l f ks h =
    let es = map entry_of_key ks in
    let d = h.before in
    let back : entries_of l ≡ es = (λ i. read_entries l.texts.now l.postings.now ((sym (counted _ l f _ d)) i)
    ((f.layout.directory ∙ d.spelled) i)) ∙ entries_back _ _ _ 0 0 _ d.each (ahead_of _ l f _ d) in
    let each = subst (λ (m : ℕ). AllByRecursion (λ x. IsList m x.postings) es) (count_records _ _)
    (lists_of_keys _ _ _ h.each) in
    are_lists _ l.texts.now _ _ _ (rw back each)

-- ---- the whole

then_rest : (i j : ℕ) (xs ys : List ℕ) → slice_range xs i j ≡ ys → i ≤ j → ys ++ drop j xs ≡ drop i xs
then_rest i j xs _ e l = ap (λ (y : List ℕ). y ++ drop j xs) (sym e)
    ∙ ap (λ (y : List ℕ). take (j - i) (drop i xs) ++ y)
    (ap (λ (n : ℕ). drop n xs) (sym (omega arith)) ∙ sym (drop-drop _ i _)) ∙ take-append-drop (j - i) _

counts_front : (bytes : List ℕ) (l : Layout) → IsLaidOut bytes l
    → HasPostings bytes (table_of l).archives (table_of l).messages (table_of l).keys
    → concat (counts (table_of l)) ++ drop 48 bytes ≡ bytes
counts_front bytes l f h =
    let t = table_of l in
    let b = f.are_bytes in
    let archives = read_count (version_number l.version) l.archive_count l.archives.now ∙ f.layout.archive_count in
    let keys = length-map (entries_of l) key_of ∙ count_entries l.texts.now l.postings.now l.key_count l.directory.now
    ∙ f.layout.key_count in
    let c₇ = ap (λ (n : ℕ). be64 n ++ drop 48 bytes) (omega (arith, ap length h.before.postings, section_length))
    ∙ u64_back _ 40 48 b (omega arith) refl in
    let c₆ = ap (λ (n : ℕ). be64 n ++ drop 40 bytes) (omega (arith, ap length h.before.texts, section_length))
    ∙ u64_back _ 32 40 b (omega arith) refl in
    let c₅ = ap (λ (n : ℕ). be64 n ++ drop 32 bytes)
    (omega (arith, ap length h.before.before.before.spelled, section_length))
    ∙ u64_back _ 24 32 b (omega arith) refl in
    let c₄ = ap (λ (n : ℕ). be32 n ++ drop 24 bytes) keys ∙ u32_back _ 20 24 b (omega arith) refl in
    let c₃ = ap (λ (n : ℕ). be32 n ++ drop 20 bytes)
    (count_records l.message_count l.records.now ∙ f.layout.message_count) ∙ u32_back _ 16 20 b (omega arith) refl
    in
    let c₂ = ap (λ (n : ℕ). be32 n ++ drop 16 bytes) archives ∙ u32_back _ 12 16 b (omega arith) refl in
    let c₁ = ap (λ (n : ℕ). be32 n ++ drop 12 bytes) f.layout.version ∙ u32_back _ 8 12 b (omega arith) refl in
    let c₀ = ap (λ (y : List ℕ). y ++ drop 8 bytes) (sym f.counts.0.marked) ∙ take-append-drop 8 bytes in
    let na = be32 (length t.archives) in let nm = be32 (length t.messages) in let nk = be32 (length t.keys) in
    let la = be64 (length (archive_section t)) in concat_then (counts t) (drop 48 bytes)
    ∙ ap (λ (y : List ℕ). before (magic ∷ be32 t.version ∷ na ∷ nm ∷ nk ∷ la ∷
    (be64 (length (texts_of (entries t)))) ∷ []) y) c₇
    ∙ ap (λ (y : List ℕ). before (magic ∷ be32 t.version ∷ na ∷ nm ∷ nk ∷ la ∷ []) y) c₆
    ∙ ap (λ (y : List ℕ). before (magic ∷ be32 t.version ∷ na ∷ nm ∷ nk ∷ []) y) c₅
    ∙ ap (λ (y : List ℕ). before (magic ∷ be32 t.version ∷ na ∷ nm ∷ []) y) c₄
    ∙ ap (λ (y : List ℕ). before (magic ∷ be32 t.version ∷ na ∷ []) y) c₃
    ∙ ap (λ (y : List ℕ). before (magic ∷ be32 t.version ∷ []) y) c₂ ∙ ap (λ (y : List ℕ). before (magic ∷ []) y) c₁
    ∙ c₀

body_front : (bytes : List ℕ) (l : Layout) → IsLaidOut bytes l
    → HasPostings bytes (table_of l).archives (table_of l).messages (table_of l).keys
    → body (table_of l) ++ drop (digest_start bytes) bytes ≡ bytes
body_front bytes l f h =
    let t = table_of l in
    let d = h.before in
    let s₅ : postings_of (entries t) ++ drop (digest_start bytes) bytes ≡ drop (postings_start bytes) bytes =
    grind (arith, then_rest, postings_of, entries) in
    let s₄ : texts_of (entries t) ++ drop (postings_start bytes) bytes ≡ drop (texts_start bytes) bytes =
    grind (arith, then_rest, texts_of, entries) in
    let s₃ : directory_from 0 0 (entries t) ++ drop (texts_start bytes) bytes ≡ drop (directory_start bytes) bytes =
    grind (arith, then_rest, directory_from, entries) in
    let s₂ : flat_map record_bytes t.messages ++ drop (directory_start bytes) bytes ≡ drop (records_start bytes) bytes =
    grind (arith, then_rest, flat_map, record_bytes) in
    let s₁ : archive_section t ++ drop (records_start bytes) bytes ≡ drop 48 bytes =
    then_rest 48 (records_start bytes) bytes (archive_section t) d.before.before.spelled (omega arith) in
    let head = concat (counts t) in
    let archives = archive_section t in
    let records = flat_map record_bytes t.messages in
    let directory = directory_from 0 0 (entries t) in
    concat_then (sections t) (drop (digest_start bytes) bytes)
    ∙ ap (λ (y : List ℕ). before (head ∷ archives ∷ records ∷ directory ∷ texts_of (entries t) ∷ []) y) s₅
    ∙ ap (λ (y : List ℕ). before (head ∷ archives ∷ records ∷ directory ∷ []) y) s₄
    ∙ ap (λ (y : List ℕ). before (head ∷ archives ∷ records ∷ []) y) s₃
    ∙ ap (λ (y : List ℕ). before (head ∷ archives ∷ []) y) s₂ ∙ ap (λ (y : List ℕ). before (head ∷ []) y) s₁
    ∙ counts_front bytes l f h

signed_whole : (bytes b : List ℕ) (n : ℕ) → n + 32 ≡ length bytes → HasDigest bytes → b ++ drop n bytes ≡ bytes → bytes
    ≡ b ++ sha256 b
signed_whole bytes b n e s w =
    let same : length bytes - 32 ≡ n = omega arith in
    let size : length b ≡ length (take n bytes) = omega (
      arith,
      ap length w,
      length-append b (drop n bytes),
      length-drop n bytes,
      length_part n bytes (omega arith),
      e,
    ) in
    let digest = ap (λ (k : ℕ). drop k bytes) (sym same) ∙ s ∙ ap (λ (k : ℕ). sha256 (take k bytes)) same in
    sym w ∙ ap (λ (y : List ℕ). b ++ y) (digest
    ∙ ap sha256 (sym (split b _ _ (drop n _) size (w ∙ sym (take-append-drop n _))).0))

pub is_file : (bytes : List ℕ) (l : Layout) → IsLaidOut bytes l
    → HasPostings bytes (table_of l).archives (table_of l).messages (table_of l).keys → IsFileOfTable bytes (table_of l)
unfolding index_file
is_file bytes l f h =
    let t = table_of l in
    let archives = read_count (version_number l.version) l.archive_count l.archives.now in
    let messages = count_records l.message_count l.records.now in
    let keys = length-map (entries_of l) key_of ∙ count_entries l.texts.now l.postings.now l.key_count l.directory.now
    in
    let told = sym f.layout.version in
    let w : IsWellFormed t = record {
      version = rw (← told) f.counts.0.known;
      archive_count = omega arith;
      message_count = omega arith;
      key_count = omega arith;
      archives = subst (λ (v : ℕ). AllByRecursion (IsArchive v) t.archives) told h.before.before.before.each;
      messages = h.before.before.each;
      in_order = h.before.before.in_order;
      keys = rw (← told) h.each;
      sorted = keys_in_order _ h.before.sorted;
    } in
    (w, signed_whole _ (body t) _ f.layout.adds_up f.counts.0.digest (body_front _ l f h))

pub checked : (bytes : List ℕ) (l : Layout) → IsLaidOut bytes l → HoldsRecords l
    → AreEntries (version_number l.version) l.texts.now (length l.postings.now) 0 0 0 [] l.key_count l.directory.now
    → AreLists l.message_count l.postings.now l.key_count l.directory.now → IsChecked l
checked bytes l f r d p = grind (arith, record_bytes, record_section, directory_section, entries, is_file, has_postings)

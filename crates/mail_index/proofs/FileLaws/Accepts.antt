-- The file of a table keeps every rule, so it has no fault: section by section.
use Rattle.mail_index.proofs.Words.{◌≡◌, ℕ, suc, ◌+◌, ◌-◌, ◌*◌, ◌^◌, ◌<◌, ◌≤◌, List, [], ◌∷◌, ◌++◌, length, map, take, drop, refl, sym, ap, subst, ◌∙◌, arith, length-append, flat_map, slice_range, AllByRecursion, concat, take-append_seam, drop-append_seam, drop-drop, from_be_bytes-to_be_bytes_4, from_be_bytes-to_be_bytes_8, Record, u32_at, u64_at, magic, entry_of_key, entries, archive_bytes, archive_section, record_bytes, directory_from, texts_of, postings_of, counts, sections, body, index_file, Archive, Key, Table, IsWellFormed, IsKey, AllNext, KeyBefore, version_told, IsFirstFaultOfFile, EntryBefore, IsEntry, records_start, directory_start, texts_start, postings_start, digest_start, IsSigned, HasArchives, HasRecords, HasDirectory, HasPostings, IsFileOfTable, read_archives, read_records}
use Rattle.sha2.specs.Sha256.{sha256}
use Rattle.sha2.proofs.Facts256.{length-sha256}
use Rattle.mail_index.specs.declared.view.fault.IndexFault.{IndexFault}
use Rattle.mail_index.specs.declared.view.fault.IndexFault.TheVariants.{TooShort, BadMagic, BadVersion, BadDigest, BadLayout}
use Rattle.mail_index.specs.declared.view.fault.Section.TheVariants.{Counts, Archives, Records, Directory, Postings}
use Rattle.mail_index.proofs.ViewLaws.ArchiveReads.{archives_back}
use Rattle.mail_index.proofs.ViewLaws.RecordSections.{records_back}
use Rattle.mail_index.proofs.FileLaws.Fronts.{before, concat_then}
use Rattle.mail_index.proofs.FileLaws.OneTable.{small_version}
use Rattle.mail_index.proofs.ViewLaws.Opening.{length_records, length_directory, some_postings}

-- a part of the bytes, and what follows it
record PartAt (bytes : List ℕ) (i j : ℕ) (mid post : List ℕ) : Type 0 where
  is : slice_range bytes i j ≡ mid
  rest : drop j bytes ≡ post

part_at : (bytes : List ℕ) (i j : ℕ) (mid post : List ℕ) → drop i bytes ≡ mid ++ post → j ≡ i + length mid
    → PartAt bytes i j mid post
part_at bytes i j mid post e n =
    let w : j - i ≡ length mid = omega arith in
    record {
      is = grind (arith, take, drop, take-append_seam);
      rest = ap (λ (k : ℕ). drop k bytes) n ∙ sym (drop-drop _ i _) ∙ ap (drop _) e ∙ drop-append_seam mid _;
    }

-- what the counts of a table's file say
pub record TellsCounts (bytes : List ℕ) (t : Table) : Type 0 where
  pub marked : take 8 bytes ≡ magic
  pub known : version_told bytes ≡ t.version
  pub archives : u32_at bytes 12 ≡ length t.archives
  pub messages : u32_at bytes 16 ≡ length t.messages
  pub keys : u32_at bytes 20 ≡ length t.keys
  pub archive_bytes : u64_at bytes 24 ≡ length (archive_section t)
  pub text_bytes : u64_at bytes 32 ≡ length (texts_of (entries t))
  pub posting_bytes : u64_at bytes 40 ≡ length (postings_of (entries t))

tells : (t : Table) (rest : List ℕ) → IsWellFormed t → length (archive_section t) < 2 ^ 64
    → length (texts_of (entries t)) < 2 ^ 64 → length (postings_of (entries t)) < 2 ^ 64
    → TellsCounts (before (counts t) rest) t
tells t _ w a x p = grind (
  arith,
  from_be_bytes-to_be_bytes_4,
  small_version,
  archive_bytes,
  from_be_bytes-to_be_bytes_8,
  archive_section,
  texts_of,
  entries,
  postings_of,
)

count_entries_of : (ks : List Key) → length (map entry_of_key ks) ≡ length ks
count_entries_of [] = refl
count_entries_of (k ∷ ks) = ap suc (count_entries_of ks)

entries_in_order : (ks : List Key) → AllNext KeyBefore ks → AllNext EntryBefore (map entry_of_key ks)
entries_in_order [] h = tt
entries_in_order (k ∷ []) h = tt
entries_in_order (k ∷ l ∷ ks) h = (h.0, entries_in_order (l ∷ ks) h.1)

are_entries : (version count : ℕ) (ks : List Key) → AllByRecursion (IsKey version count) ks
    → AllByRecursion (IsEntry version) (map entry_of_key ks)
are_entries _ _ [] h = tt
are_entries version count (k ∷ ks) h = grind (arith, some_postings, are_entries version count ks h.1)

length_body : (t : Table) → length (body t)
    ≡ 48 + length (archive_section t) + 40 * length t.messages + 24 * length t.keys + length (texts_of (entries t)) +
    length (postings_of (entries t))
length_body t = grind (
  arith,
  archive_section,
  flat_map,
  record_bytes,
  directory_from,
  entries,
  texts_of,
  postings_of,
  length-append,
  concat,
  counts,
  length_records,
  length_directory,
  count_entries_of,
)

-- the sections of a table's file, whatever its last bytes are
pub record HasParts (bytes : List ℕ) (t : Table) : Type 0 where
  pub told : TellsCounts bytes t
  pub size : length bytes ≡ length (body t) + 32
  pub long : 80 ≤ length bytes
  pub adds_up : digest_start bytes + 32 ≡ length bytes
  pub archives : slice_range bytes 48 (records_start bytes) ≡ archive_section t
  pub records : slice_range bytes (records_start bytes) (directory_start bytes) ≡ flat_map record_bytes t.messages
  pub directory : slice_range bytes (directory_start bytes) (texts_start bytes) ≡ directory_from 0 0 (entries t)
  pub texts : slice_range bytes (texts_start bytes) (postings_start bytes) ≡ texts_of (entries t)
  pub postings : slice_range bytes (postings_start bytes) (digest_start bytes) ≡ postings_of (entries t)

pub has_parts : (bytes : List ℕ) (t : Table) (seal : List ℕ) → length bytes < 2 ^ 64 → IsWellFormed t → length seal ≡ 32
    → bytes ≡ body t ++ seal → HasParts bytes t
has_parts bytes t seal few w sealed is =
    let b = body t in
    let size = ap length is ∙ length-append b seal ∙ ap (λ (n : ℕ). length b + n) sealed in
    let n = length_body t in
    let a = archive_section t in let r = flat_map record_bytes t.messages in let d = directory_from 0 0 (entries t)
    in let x = texts_of (entries t) in let p = postings_of (entries t) in
    let rest = a ++ (r ++ (d ++ (x ++ (p ++ seal)))) in
    let spelled = is ∙ concat_then (sections t) seal ∙ concat_then (counts t) rest in
    let c = rw (← spelled) at (tells t rest w (omega (arith, size, n, few)) (omega (arith, size, n, few))
    (omega (arith, size, n, few))) in
    let p₁ = part_at _ _ (records_start bytes) a _ (ap (drop 48) spelled) (omega arith) in
    let p₂ = part_at _ _ (directory_start bytes) r _ p₁.rest (omega (arith, length_records)) in
    let p₃ = part_at _ _ (texts_start bytes) d _ p₂.rest (omega (arith, length_directory, count_entries_of)) in
    let p₄ = part_at _ _ (postings_start bytes) x _ p₃.rest (omega arith) in
    record {
      told = c;
      size = size;
      long = omega arith;
      adds_up = omega arith;
      archives = p₁.is;
      records = p₂.is;
      directory = p₃.is;
      texts = p₄.is;
      postings = (part_at _ _ (digest_start bytes) p seal p₄.rest (omega arith)).is;
    }

-- the file of a table that fits in memory keeps all rules
pub keeps_rules : (bytes : List ℕ) (t : Table) → length bytes < 2 ^ 64 → IsFileOfTable bytes t
    → HasPostings bytes t.archives t.messages t.keys
unfolding index_file
keeps_rules bytes t few f =
    let w = f.0 in
    let b = body t in
    let parts = has_parts _ t _ few w (length-sha256 b) f.1 in
    let c = parts.told in
    let before_digest : length bytes - 32 ≡ length b = omega arith in
    let digest = ap (λ (k : ℕ). drop k bytes) before_digest ∙ ap (drop (length b)) f.1 ∙ drop-append_seam b (sha256 b)
    ∙ ap sha256 (sym (ap (λ (k : ℕ). take k bytes) before_digest ∙ ap (take (length b)) f.1
    ∙ take-append_seam b (sha256 b))) in
    let signed : IsSigned bytes = grind arith in
    let archives : HasArchives bytes t.archives = grind (arith, before) in
    let records : HasRecords bytes t.archives t.messages = grind (arith, before) in
    let keys = subst (λ (v : ℕ). AllByRecursion (IsKey v (length t.messages)) t.keys) (sym c.known) w.keys in
    let directory : HasDirectory bytes t.archives t.messages (map entry_of_key t.keys) =
    grind (arith, before, are_entries, entries_in_order) in
    record { before = directory; each = keys }

-- ---- so it has no fault

same_archives : (bytes : List ℕ) (as' bs : List Archive) → HasArchives bytes as' → HasArchives bytes bs → as' ≡ bs
same_archives _ _ _ a b = grind (arith, flat_map, archive_bytes, archives_back, version_told, read_archives)

pub same_records : (bytes : List ℕ) (archives : List Archive) (ms ns : List Record) → length archives < 2 ^ 32
    → HasRecords bytes archives ms → HasRecords bytes archives ns → ms ≡ ns
same_records bytes archives ms ns few a b =
    let e = sym a.spelled ∙ b.spelled in
    let l : length ms ≡ length ns = omega (arith, ap length e, length_records, length_records) in
    grind (arith, records_back, read_records)

pub no_fault : (bytes : List ℕ) (t : Table) → length bytes < 2 ^ 64 → IsFileOfTable bytes t → (f : IndexFault)
    → IsFirstFaultOfFile bytes f → ⊥
no_fault bytes t few w f h = go f h (keeps_rules _ t few w) w.0.archive_count
  where
    go : (f : IndexFault) → IsFirstFaultOfFile bytes f → HasPostings bytes t.archives t.messages t.keys
        → length t.archives < 2 ^ 32 → ⊥
    go TooShort h k n = omega arith
    go BadMagic h k n = h.1 k.before.before.before.before.0.marked
    go BadVersion h k n = h.2 k.before.before.before.before.0.known
    go BadDigest h k n = h.3 k.before.before.before.before.0.digest
    go (BadLayout Counts) h k n = h.1 k.before.before.before.before.1
    go (BadLayout Archives) h k n = h.1 t.archives k.before.before.before
    go (BadLayout Records) h k n = grind (arith, same_archives)
    go (BadLayout Directory) h k n = grind (arith, entry_of_key)
    go (BadLayout Postings) h k n = grind (arith, same_archives, same_records, length)

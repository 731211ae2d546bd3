-- The walk over records accepts exactly the records of tables: what it reads has the section's bytes, record by record.
use Rattle.mail_index.proofs.Words.{◌≡◌, ℕ, zero, suc, ◌+◌, ◌-◌, ◌*◌, ◌^◌, ◌<◌, ◌≤◌, Bool, true, cond, List, [], ◌∷◌, ◌++◌, length, drop, Some, None, refl, sym, ap, ◌∙◌, arith, length-drop, flat_map, IfSome, FitsSigned, w64, cast_signed, AllByRecursion, nat_tests, Record, u64_at, record_bytes, Archive, IsArchive, IsMessage, Follows, AllNext, is_after, after_archives, read_archives, IsNextRecord, AreRecords, read_record, read_records, is_record}
use Rattle.mail_index.proofs.Items.{empty_list}
use Rattle.mail_index.proofs.FileLaws.Bytes.{AreBytes, bytes_after}
use Rattle.mail_index.proofs.FileLaws.OneTable.{small_archive}
use Rattle.mail_index.proofs.ViewLaws.RecordReads.{HasSmallFields, record_back, after_record, record_kept, record_passes}
use Rattle.mail_index.proofs.ViewLaws.ArchiveReads.{archives_after, length_at, read_count}

-- the first message comes after the place, and each other one after the end of the one before it
abbrev pub AreRecordsAfter : ℕ → ℕ → List Record → Type 0
AreRecordsAfter archive place [] = Unit {0}
AreRecordsAfter archive place (m ∷ ms) = (is_after archive place m ≡ true)
    × AreRecordsAfter m.archive (m.offset + m.length) ms

pub in_order : (archive place : ℕ) (ms : List Record) → AreRecordsAfter archive place ms → AllNext Follows ms
in_order _ _ [] h = tt
in_order _ _ (m ∷ []) h = tt
in_order archive _ (m ∷ n ∷ ms) h = grind
    (arith, is_after, nat_tests, in_order m.archive (m.offset + m.length) (n ∷ ms) h.1)

is_after_of : (m n : Record) → Follows m n → is_after m.archive (m.offset + m.length) n ≡ true
is_after_of m n h = grind (arith, nat_tests)

after_next : (m : Record) (ms : List Record) → AllNext Follows (m ∷ ms)
    → AreRecordsAfter m.archive (m.offset + m.length) ms
after_next m [] h = tt
after_next m (n ∷ ms) h = (is_after_of m n h.0, after_next n ms h.1)

from_start : (m : Record) → is_after 0 0 m ≡ true
from_start m = grind (arith, nat_tests)

pub are_records_after : (ms : List Record) → AllNext Follows ms → AreRecordsAfter 0 0 ms
are_records_after [] h = tt
are_records_after (m ∷ ms) h = (from_start m, after_next m _ h)

date_fits : (b : Bool) (n : ℕ) → IfSome (cond b (Some (cast_signed w64 n)) None) (FitsSigned w64)
date_fits b n = grind (arith, w64)

-- ---- what the walk finds

pub record ShowsRecords (archives : List Archive) (archive place n : ℕ) (r : List ℕ) : Type 0 where
  pub spelled : r ≡ flat_map record_bytes (read_records n r)
  pub each : AllByRecursion (IsMessage archives) (read_records n r)
  pub after : AreRecordsAfter archive place (read_records n r)

after_later : (version a b : ℕ) (s rest : List ℕ) → a ≤ b → rest ≡ after_archives version a s
    → after_archives version (b - a) rest ≡ after_archives version b s
after_later version a b s _ l e =
    let f : a + (b - a) ≡ b = omega arith in
    grind (arith, after_archives, archives_after)

not_before : (archive place : ℕ) (m : Record) → is_after archive place m ≡ true → archive ≤ m.archive
not_before _ _ m h = grind (arith, nat_tests)

date_of_read : (r : List ℕ) → IfSome (read_record r).date (FitsSigned w64)
unfolding read_record
date_of_read r = date_fits _ _

pub shows_records : (version count : ℕ) (s : List ℕ) (archive place : ℕ) (rest : List ℕ) (n : ℕ) (r : List ℕ) → rest
    ≡ after_archives version archive s → AreBytes r → length r ≡ 40 * n
    → AreRecords version count archive place rest n r → ShowsRecords (read_archives version count s) archive place n r
shows_records _ _ s _ _ _ zero r e b l h = grind (arith, empty_list)
shows_records version count s archive place rest (suc n) r e b l h =
    let m = read_record r in
    let later = after_later _ _ _ s _ (not_before _ _ m h.1.follows) e in
    let most = length_at version _ _ s h.1.exists ∙ ap (λ (x : List ℕ). u64_at x 0) (sym later) in
    let more = shows_records version count s m.archive (m.offset + m.length)
    (after_archives version (m.archive - archive) rest) n (drop 40 r) later (bytes_after 40 r b)
    (omega (arith, l, length-drop 40 r)) h.2 in
    let valid : IsMessage (read_archives version count s) m = grind (arith, read_count, date_of_read) in
    grind (arith, record_kept, record_bytes)

-- ---- the walk accepts the records of a table

pub small_fields : (version : ℕ) (archives : List Archive) (m : Record) → length archives < 2 ^ 32
    → AllByRecursion (IsArchive version) archives → IsMessage archives m → HasSmallFields m
small_fields _ _ m l a h = grind (arith, small_archive)

pub records_back : (version : ℕ) (archives : List Archive) (ms : List Record) → length archives < 2 ^ 32
    → AllByRecursion (IsArchive version) archives → AllByRecursion (IsMessage archives) ms
    → read_records (length ms) (flat_map record_bytes ms) ≡ ms
records_back _ _ [] l a h = refl
records_back version archives (m ∷ ms) l a h =
    λ i. (record_back m (flat_map record_bytes ms) (small_fields _ _ m l a h.0)) i ∷
    (records_back version archives ms l a h.1) i

one_more : (version count archive place : ℕ) (rest : List ℕ) (n : ℕ) (r after : List ℕ) (m : Record) → read_record r
    ≡ m → drop 40 r ≡ after → is_record r ≡ true → IsNextRecord version count archive place rest m
    → AreRecords version count m.archive (m.offset + m.length) (after_archives version (m.archive - archive) rest) n
    after → AreRecords version count archive place rest (suc n) r
one_more _ _ _ _ _ n r _ m e d t x h = grind (arith, after_archives)

pub are_records_of : (version count : ℕ) (s : List ℕ) (archive place : ℕ) (rest : List ℕ) (ms : List Record)
    → count < 2 ^ 32 → AllByRecursion (IsArchive version) (read_archives version count s) → rest
    ≡ after_archives version archive s
    → AllByRecursion (IsMessage (read_archives version count s)) ms → AreRecordsAfter archive place ms
    → AreRecords version count archive place rest (length ms) (flat_map record_bytes ms)
are_records_of _ _ s _ _ _ [] l a e h b = tt
are_records_of version count s archive place rest (m ∷ ms) l a e h b =
    let r = flat_map record_bytes ms in
    let small = small_fields _ _ m (omega (arith, read_count)) a h.0 in
    let exists : m.archive < count = omega (arith, read_count) in
    let later = after_later _ _ _ s _ (not_before _ _ m b.0) e in
    let most = length_at version _ _ s exists ∙ ap (λ (x : List ℕ). u64_at x 0) (sym later) in
    let next : IsNextRecord version count archive place rest m = grind arith in
    one_more _ _ _ _ _ _ _ r m (record_back m r small) (after_record m r) (record_passes m r small) next
    (are_records_of version count s m.archive (m.offset + m.length)
    (after_archives version (m.archive - archive) rest) ms l a later h.1 b.1)

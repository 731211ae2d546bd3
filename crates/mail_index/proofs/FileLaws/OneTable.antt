-- Equal files are those of equal tables: each section of the two is equal, in turn.
use Rattle.mail_index.proofs.Words.{◌≡◌, ℕ, zero, suc, ◌+◌, ◌^◌, ◌<◌, ◌≤◌, List, [], ◌∷◌, ◌++◌, length, map, get_or, refl, sym, ap, ◌∙◌, append_assoc, arith, flat_map, AllByRecursion, length-append, length-map, Record, kind_number, IsVersion, Archive, Key, Table, IsArchive, IsMessage, IsKey, IsWellFormed, archive_length, zeros, be32, be64, archive_bytes, record_bytes, DirectoryEntry, entry_of_key, entry_bytes, directory_from, texts_of, postings_of, archive_section, entries, counts, sections, body, HasSmallSections, index_file}
use Rattle.mail_index.proofs.FileLaws.Fronts.{split, before, concat_then, same_parts, be32_is, be64_is, front_each, archive_front}
use Rattle.mail_index.proofs.ViewLaws.KindNumbers.{kind_is}
use Rattle.mail_index.proofs.FileLaws.RecordFronts.{same_at, HasFew, message_front, numbers_are}

-- ---- the directory

abbrev text_total : List DirectoryEntry → ℕ
text_total es = length (texts_of es)

abbrev total : List DirectoryEntry → ℕ
total es = length (postings_of es)

abbrev AreAlike : List DirectoryEntry → List DirectoryEntry → Type 0
AreAlike [] [] = Unit {0}
AreAlike (e ∷ es) (f ∷ fs) = (kind_number e.kind ≡ kind_number f.kind) × (length e.text ≡ length f.text)
    × (length e.postings ≡ length f.postings) × AreAlike es fs
AreAlike _ _ = ⊥

abbrev HasShort : DirectoryEntry → Type 0
HasShort e = length e.text < 2 ^ 32

entry_list : ℕ → ℕ → DirectoryEntry → List (List ℕ)
entry_list tp pp e = (kind_number e.kind ∷ zeros) ∷ be32 (length e.text) ∷ be64 tp ∷ be64 pp ∷ []

directory_is : (es fs : List DirectoryEntry) (tp pp tq pq : ℕ) (x y : List ℕ) → length es ≡ length fs
    → AllByRecursion HasShort es → AllByRecursion HasShort fs
    → tp + text_total es < 2 ^ 64 → pp + total es < 2 ^ 64
    → tp + text_total es ≡ tq + text_total fs → pp + total es ≡ pq + total fs
    → directory_from tp pp es ++ x ≡ directory_from tq pq fs ++ y → (pp ≡ pq) × AreAlike es fs × (x ≡ y)
unfolding entry_list
directory_is [] [] _ _ _ _ x y h p q s t u v e = (omega arith, tt, e)
directory_is [] (f ∷ fs) _ _ _ _ x y h p q s t u v e = absurd (omega arith)
directory_is (a ∷ es) [] _ _ _ _ x y h p q s t u v e = absurd (omega arith)
directory_is (a ∷ es) (b ∷ fs) tp pp tq pq x y h p q s t u v e =
    let more = directory_from (tp + length a.text) (pp + length a.postings) es in
    let more' = directory_from (tq + length b.text) (pq + length b.postings) fs in
    let la = length-append a.text (texts_of es) in
    let lb = length-append b.text (texts_of fs) in
    let ma = length-append a.postings (postings_of es) in
    let mb = length-append b.postings (postings_of fs) in
    let e' = sym (concat_then (entry_list tp pp a) (more ++ x)) ∙ sym (append_assoc (entry_bytes tp pp a) more x) ∙ e
    ∙ append_assoc (entry_bytes tq pq b) more' y ∙ concat_then (entry_list tq pq b) (more' ++ y) in
    let c = same_parts (entry_list tp pp a) (entry_list tq pq b) _ _ refl e' in
    let places = be64_is _ _ (omega arith) (omega arith) (same_at _ _ 3 c.0) in
    let r = directory_is es fs (tp + length a.text) (pp + length a.postings) (tq + length b.text)
    (pq + length b.postings) x y (omega arith) p.1 q.1 (omega arith) (omega arith) (omega arith) (omega arith) c.1
    in (
      places,
      (
        (ap (λ (l : List ℕ). get_or l 0 0) (same_at _ _ 0 c.0)),
        (be32_is _ _ p.0 q.0 (same_at _ _ 1 c.0)),
        omega arith,
        r.1,
      ),
      r.2,
    )

entries_are : (es fs : List DirectoryEntry) → AreAlike es fs → texts_of es ≡ texts_of fs → postings_of es
    ≡ postings_of fs → es
    ≡ fs
entries_are [] [] a t p = refl
entries_are [] (f ∷ fs) a t p = elim a [ ]
entries_are (e ∷ es) [] a t p = elim a [ ]
entries_are (e ∷ es) (f ∷ fs) a t p =
    let s = split _ _ _ _ a.1 t in
    let u = split _ _ _ _ a.2 p in
    let h : e ≡ f = λ i. record { kind = (kind_is _ _ a.0) i; text = s.0 i; postings = u.0 i } in
    let r = entries_are es fs a.3 s.1 u.1 in
    cc

keys_are : (version count : ℕ) (ks ls : List Key) → count < 2 ^ 32 → AllByRecursion (IsKey version count) ks
    → AllByRecursion (IsKey version count) ls → map entry_of_key ks ≡ map entry_of_key ls → ks ≡ ls
keys_are _ _ [] [] h p q e = refl
keys_are _ _ [] (l ∷ ls) h p q e = absurd cc
keys_are _ _ (k ∷ ks) [] h p q e = absurd cc
keys_are version count (k ∷ ks) (l ∷ ls) h p q e =
    let head : entry_of_key k ≡ entry_of_key l = cc in
    let kind = ap (λ (x : DirectoryEntry). x.kind) head in
    let text = ap (λ (x : DirectoryEntry). x.text) head in
    let numbers = numbers_are _ _ k l h p.0 q.0 (ap (λ (x : DirectoryEntry). x.postings) head) in
    let same : k ≡ l = λ i. record { kind = kind i; text = text i; numbers = numbers i } in
    let r = keys_are version count ks ls h p.1 q.1 cc in
    cc

pub small_archive : (version : ℕ) (archives : List Archive) (n : ℕ) → AllByRecursion (IsArchive version) archives
    → archive_length archives n ≤ 2 ^ 40
small_archive _ [] n s = omega arith
small_archive _ (a ∷ rest) zero s = s.0.1
small_archive version (a ∷ rest) (suc n) s = small_archive version rest n s.1

with_few : (version : ℕ) (archives : List Archive) (ms : List Record) → length archives < 2 ^ 32
    → AllByRecursion (IsArchive version) archives → AllByRecursion (IsMessage archives) ms
    → AllByRecursion (HasFew archives) ms
with_few _ _ [] h s p = tt
with_few version archives (m ∷ ms) h s p = ((p.0, h, small_archive _ _ _ s), with_few version archives ms h s p.1)

short_texts : (version count : ℕ) (ks : List Key) → AllByRecursion (IsKey version count) ks
    → AllByRecursion HasShort (map entry_of_key ks)
short_texts _ _ [] p = tt
short_texts version count (k ∷ ks) p = (p.0.short, short_texts version count ks p.1)

pub small_version : (n : ℕ) → IsVersion n → n < 2 ^ 32
small_version n h = grind arith

abbrev tail_of : Table → List ℕ → List ℕ
tail_of t x = before (archive_section t ∷ flat_map record_bytes t.messages ∷ directory_from 0 0 (entries t) ∷ texts_of
    (entries t) ∷ postings_of (entries t) ∷ []) x

pub one_table : (t u : Table) (x y : List ℕ) → IsWellFormed t → IsWellFormed u → HasSmallSections t → HasSmallSections u
    → body t ++ x ≡ body u ++ y → t ≡ u
one_table t u x y p q a b e =
    let e₂ = sym (concat_then (counts t) (tail_of t x))
    ∙ (sym (concat_then (sections t) x) ∙ e ∙ concat_then (sections u) y) ∙ concat_then (counts u) (tail_of u y) in
    let c = same_parts (counts t) (counts u) _ _ refl e₂ in
    let version = be32_is _ _ (small_version _ p.version) (small_version _ q.version) (same_at _ _ 1 c.0) in
    let n_messages = be32_is _ _ p.message_count q.message_count (same_at _ _ 3 c.0) in
    let n_texts = be64_is _ _ a.texts b.texts (same_at _ _ 6 c.0) in
    let n_postings = be64_is _ _ a.postings b.postings (same_at _ _ 7 c.0) in
    let r = front_each archive_bytes _ (archive_front _) _ _ _ _
    (be32_is _ _ p.archive_count q.archive_count (same_at _ _ 2 c.0)) p.archives (rw (← version) at q.archives) c.1
    in
    let same = r.0 in
    let m = front_each record_bytes _ (message_front _) _ _ _ _ n_messages
    (with_few _ _ _ p.archive_count p.archives p.messages)
    (with_few _ _ _ p.archive_count p.archives (rw (← same) at q.messages)) r.1 in
    let d = directory_is _ _ 0 0 0 0 _ _ (length-map _ _ ∙ (be32_is _ _ p.key_count q.key_count (same_at _ _ 4 c.0))
    ∙ sym (length-map _ _)) (short_texts _ _ _ p.keys) (short_texts _ _ _ q.keys) (omega arith) (omega arith)
    (omega arith) (omega arith) m.1 in
    let g = split _ _ _ _ n_texts d.2 in
    let es = entries_are _ _ d.1 g.0 (split _ _ x y n_postings g.1).0 in
    let known = rw (← version) at (rw (← n_messages) at q.keys) in
    let ks = keys_are _ _ _ _ p.message_count p.keys known es in
    λ i. record { version = version i; archives = same i; messages = m.0 i; keys = ks i }

pub one_file : (t u : Table) → IsWellFormed t → IsWellFormed u → HasSmallSections t → HasSmallSections u → index_file t
    ≡ index_file u → t ≡ u
unfolding index_file
one_file t u p q a b e = one_table t u _ _ p q a b e

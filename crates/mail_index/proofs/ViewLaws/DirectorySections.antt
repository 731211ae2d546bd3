-- The walk over a directory accepts exactly the directories of tables: what it reads has the section's bytes, entry by
-- entry.
use Rattle.mail_index.proofs.Words.{◌≡◌, ℕ, zero, suc, ◌+◌, ◌-◌, ◌*◌, ◌^◌, ◌<◌, ◌≤◌, Bool, true, cond, ◌&&◌, List, [], ◌∷◌, ◌++◌, length, take, drop, refl, sym, ap, ◌∙◌, arith, length-drop, length-append, nat_eq, Less, AllByRecursion, take-append_seam, drop-append_seam, take-append-drop, drop-drop, nat_tests, from_be_bytes-to_be_bytes_4, from_be_bytes-to_be_bytes_8, kind_number, kind_of_number, is_kind_number, last_kind, byte_at, u32_at, u64_at, zeros, be32, be64, DirectoryEntry, entry_bytes, directory_from, texts_of, postings_of, AllNext, IsEntry, EntryBefore, key_cmp, is_entry, end_before, text_at, read_entry, read_entries, IsEntryAt, AreEntries}
use Rattle.mail_index.proofs.Items.{empty_list}
use Rattle.mail_index.proofs.FileLaws.Fronts.{before, concat_then}
use Rattle.mail_index.proofs.FileLaws.Bytes.{AreBytes, bytes_after, bytes_before, u32_back, u64_back, byte_back, both, length_part}
use Rattle.mail_index.proofs.ViewLaws.KindNumbers.{kind_of-number, kind_passes, kind_kept, few_kinds, first_less}

-- each entry comes after the one before it, and the first entry comes after this key
abbrev pub AreAfter : ℕ → List ℕ → List DirectoryEntry → Type 0
AreAfter number text [] = Unit {0}
AreAfter number text (e ∷ es) = (key_cmp number text (kind_number e.kind) e.text ≡ Less)
    × AreAfter (kind_number e.kind) e.text es

pub sorted : (number : ℕ) (text : List ℕ) (es : List DirectoryEntry) → AreAfter number text es → AllNext EntryBefore es
sorted _ _ [] h = tt
sorted _ _ (e ∷ []) h = tt
sorted _ text (e ∷ f ∷ es) h = (h.1.0, sorted (kind_number e.kind) e.text (f ∷ es) h.1)

after_first : (e : DirectoryEntry) (es : List DirectoryEntry) → AllNext EntryBefore (e ∷ es)
    → AreAfter (kind_number e.kind) e.text es
after_first e [] h = tt
after_first e (f ∷ es) h = (h.0, after_first f es h.1)

pub are_after : (es : List DirectoryEntry) → AllNext EntryBefore es → AreAfter 0 [] es
are_after [] h = tt
are_after (e ∷ es) h = (first_less [] e.kind e.text, after_first e _ h)

-- ---- what the walk finds

pub record ShowsEntries (version : ℕ) (texts postings : List ℕ) (tp pp number : ℕ) (text : List ℕ) (n : ℕ) (d : List ℕ)
    : Type 0 where
  pub spelled : d ≡ directory_from tp pp (read_entries texts postings n d)
  pub texts_spelled : drop tp texts ≡ texts_of (read_entries texts postings n d)
  pub postings_spelled : drop pp postings ≡ postings_of (read_entries texts postings n d)
  pub each : AllByRecursion (IsEntry version) (read_entries texts postings n d)
  pub after : AreAfter number text (read_entries texts postings n d)

pub u32_small : (d : List ℕ) (i : ℕ) → AreBytes d → u32_at d i < 2 ^ 32
u32_small d i h =
    let t = bytes_before 4 _ (bytes_after i d h) in
    omega (arith, t.below 0, t.below 1, t.below 2, t.below 3)

entry_kept : (version : ℕ) (d : List ℕ) (tp pp : ℕ) (e : DirectoryEntry) → AreBytes d → 24 ≤ length d
    → is_entry version d ≡ true
    → e.kind ≡ kind_of_number (byte_at d 0) → length e.text ≡ u32_at d 4
    → tp ≡ u64_at d 8 → pp ≡ u64_at d 16 → entry_bytes tp pp e ++ drop 24 d ≡ d
unfolding is_entry
entry_kept version d tp pp e h l t ek et etp epp =
    let t₁ = both _ _ t in
    let kind = ap kind_number ek ∙ kind_kept _ (byte_at d 0) (few_kinds _) t₁.0 in
    let zero₁ : byte_at d 1 ≡ 0 = grind (arith, nat_tests) in
    let zero₂ : byte_at d 2 ≡ 0 = grind (arith, nat_tests) in
    let zero₃ : byte_at d 3 ≡ 0 = grind (arith, nat_tests) in
    let s₃ = ap (λ (n : ℕ). be64 n ++ drop 24 d) epp ∙ u64_back d 16 24 h (omega arith) refl in
    let b₃ = byte_back d 3 4 (omega arith) refl in
    let b₂ = byte_back d 2 3 (omega arith) refl in
    let b₁ = byte_back d 1 2 (omega arith) refl in
    let b₀ = byte_back d 0 1 (omega arith) refl in
    concat_then ((kind_number e.kind ∷ zeros) ∷ be32 (length e.text) ∷ be64 tp ∷ be64 pp ∷ []) (drop 24 d)
    ∙ ap (λ (x : List ℕ). before ((kind_number e.kind ∷ zeros) ∷ be32 (length e.text) ∷ be64 tp ∷ []) x) s₃
    ∙ ap (λ (x : List ℕ). before ((kind_number e.kind ∷ zeros) ∷ be32 (length e.text) ∷ []) x)
    (ap (λ (n : ℕ). be64 n ++ drop 16 d) etp ∙ u64_back d 8 16 h (omega arith) refl)
    ∙ ap (λ (x : List ℕ). before ((kind_number e.kind ∷ zeros) ∷ []) x)
    (ap (λ (n : ℕ). be32 n ++ drop 8 d) et ∙ u32_back d 4 8 h (omega arith) refl) ∙ cc

part_then : (a b c : ℕ) (xs : List ℕ) → a + b ≡ c → take b (drop a xs) ++ drop c xs ≡ drop a xs
part_then a b c xs e = ap (λ (k : List ℕ). take b (drop a xs) ++ k)
    (ap (λ (n : ℕ). drop n xs) (sym e) ∙ sym (drop-drop b a _)) ∙ take-append-drop b _

past_all : (n : ℕ) (xs : List ℕ) → n ≡ length xs → drop n xs ≡ []
past_all n xs e = empty_list _ (omega (arith, e, length-drop n xs))

pub entry_kind : (version : ℕ) (d : List ℕ) → is_entry version d ≡ true
    → is_kind_number (last_kind version) (byte_at d 0) ≡ true
unfolding is_entry
entry_kind version d t = (both _ _ t).0

pub shows_entries : (version : ℕ) (texts postings : List ℕ) (tp pp number : ℕ) (text : List ℕ) (n : ℕ) (d : List ℕ)
    → AreBytes d → length d ≡ 24 * n
    → AreEntries version texts (length postings) tp pp number text n d
    → ShowsEntries version texts postings tp pp number text n d
unfolding read_entry
shows_entries _ texts postings tp pp _ _ zero d b l h = grind (arith, empty_list, past_all)
shows_entries version texts postings tp pp number text (suc n) d b l h =
    let x = h.0 in
    let e = read_entry texts postings d in
    let es = read_entries texts postings n (drop 24 d) in
    let size = u32_at d 4 in
    let end = end_before (drop 24 d) (length postings) in
    let size_text : length e.text ≡ size = grind (arith, length_part, drop, u64_at, length-drop) in
    let size_postings : length e.postings ≡ end - pp = grind (arith, length_part, u64_at, drop, length-drop) in
    let kind : kind_number e.kind ≡ byte_at d 0 =
    kind_kept (last_kind version) (byte_at d 0) (few_kinds version) (entry_kind version d x.spelled) in
    let few_kind : kind_number e.kind ≤ last_kind version =
    grind (arith, nat_tests, (entry_kind version d x.spelled), kind) in
    let front : entry_bytes tp pp e ++ drop 24 d ≡ d =
    entry_kept version d tp pp e b (omega (arith, l)) x.spelled refl size_text (sym x.text_begins) (sym x.begins) in
    let more = shows_entries version texts postings (tp + size) end (byte_at d 0) (text_at texts d) n (drop 24 d)
    (bytes_after 24 d b) (omega (arith, l, length-drop 24 d)) h.1 in
    grind (arith, entry_bytes, directory_from, length, part_then, drop, u32_small, key_cmp, text_at)

-- ---- the walk accepts the directory of a table

some_length : (x : ℕ) (xs : List ℕ) (total n : ℕ) → cond (nat_eq (length (x ∷ xs)) 0) total n ≡ n
some_length x xs total n = grind (arith, length, cond)

-- where the postings of an entry end
end_of : (tp pp total : ℕ) (es : List DirectoryEntry) → pp < 2 ^ 64 → total ≡ pp + length (postings_of es)
    → end_before (directory_from tp pp es) total ≡ pp
end_of _ _ _ [] l e = omega arith
end_of tp pp total (f ∷ fs) l e = grind (
  arith,
  some_length,
  kind_number,
  zeros,
  be32,
  length,
  be64,
  directory_from,
  from_be_bytes-to_be_bytes_8,
)

-- the rest of the texts and of the postings is that of these entries
pub record IsAhead (texts postings : List ℕ) (tp pp : ℕ) (es : List DirectoryEntry) : Type 0 where
  pub text_bound : tp ≤ length texts
  pub bound : pp ≤ length postings
  pub texts_spelled : drop tp texts ≡ texts_of es
  pub postings_spelled : drop pp postings ≡ postings_of es
  pub few_texts : length texts < 2 ^ 64
  pub few_postings : length postings < 2 ^ 64

pub record FrontOf (version : ℕ) (texts postings : List ℕ) (tp pp : ℕ) (e : DirectoryEntry) (es : List DirectoryEntry)
    (d : List ℕ) : Type
    0 where
  pub passes : is_entry version d ≡ true
  pub size : u32_at d 4 ≡ length e.text
  pub text_begins : u64_at d 8 ≡ tp
  pub begins : u64_at d 16 ≡ pp
  pub end : end_before (drop 24 d) (length postings) ≡ pp + length e.postings
  pub text : text_at texts d ≡ e.text
  pub its : take (end_before (drop 24 d) (length postings) - u64_at d 16) (drop (u64_at d 16) postings) ≡ e.postings
  pub text_room : tp + length e.text ≤ length texts
  pub room : pp + length e.postings ≤ length postings
  pub ahead : IsAhead texts postings (tp + length e.text) (pp + length e.postings) es

few_tests : (k : Bool) → k ≡ true → (k && true) ≡ true
few_tests k e = rw e refl

front_entry : (version : ℕ) (texts postings : List ℕ) (tp pp : ℕ) (e : DirectoryEntry) (es : List DirectoryEntry)
    → IsEntry version e
    → IsAhead texts postings tp pp (e ∷ es) → FrontOf version texts postings tp pp e es (directory_from tp pp (e ∷ es))
unfolding is_entry
front_entry version texts postings tp pp e es h a =
    let d = directory_from tp pp (e ∷ es) in
    let n₁ : length texts - tp ≡ length e.text + length (texts_of es) = sym (length-drop tp texts)
    ∙ ap length a.texts_spelled ∙ length-append e.text (texts_of es) in
    let n₂ : length postings - pp ≡ length e.postings + length (postings_of es) = sym (length-drop pp postings)
    ∙ ap length a.postings_spelled ∙ length-append e.postings (postings_of es) in
    let size : u32_at d 4 ≡ length e.text = from_be_bytes-to_be_bytes_4 (length e.text) h.2 in
    let text_begins : u64_at d 8 ≡ tp = from_be_bytes-to_be_bytes_8 tp (omega (arith, a.text_bound, a.few_texts)) in
    let begins : u64_at d 16 ≡ pp = from_be_bytes-to_be_bytes_8 pp (omega (arith, a.bound, a.few_postings)) in
    let end : end_before (drop 24 d) (length postings) ≡ pp + length e.postings = grind (arith, end_of, length) in
    let text : text_at texts d ≡ e.text = cc (take-append_seam e.text (texts_of es)) in
    let its : take (end_before (drop 24 d) (length postings) - u64_at d 16) (drop (u64_at d 16) postings) ≡ e.postings =
    ap (λ (k : ℕ). take k (drop (u64_at d 16) postings)) (omega (arith, end, begins))
    ∙ ap (λ (k : ℕ). take (length e.postings) (drop k postings)) begins
    ∙ ap (take (length e.postings)) a.postings_spelled ∙ take-append_seam e.postings (postings_of es) in
    let t₂ : drop (tp + length e.text) texts ≡ texts_of es =
    cc (drop-append_seam e.text (texts_of es), drop-drop (length e.text) tp texts) in
    let p₂ : drop (pp + length e.postings) postings ≡ postings_of es =
    cc (drop-append_seam e.postings (postings_of es), drop-drop (length e.postings) pp postings) in
    let ahead : IsAhead texts postings (tp + length e.text) (pp + length e.postings) es = grind arith in
    grind (arith, few_tests, is_kind_number, last_kind, kind_number, kind_passes)

entry_back : (version : ℕ) (texts postings : List ℕ) (tp pp : ℕ) (e : DirectoryEntry) (es : List DirectoryEntry)
    (d : List ℕ)
    → FrontOf version texts postings tp pp e es d → byte_at d 0 ≡ kind_number e.kind → read_entry texts postings d ≡ e
unfolding read_entry
entry_back _ _ postings _ _ e _ d f k = grind (arith, kind_of_number, kind_of-number)

pub entries_back : (version : ℕ) (texts postings : List ℕ) (tp pp : ℕ) (es : List DirectoryEntry)
    → AllByRecursion (IsEntry version) es → IsAhead texts postings tp pp es
    → read_entries texts postings (length es) (directory_from tp pp es) ≡ es
entries_back _ _ _ _ _ [] h a = refl
entries_back version texts postings tp pp (e ∷ es) h a =
    let f = front_entry _ _ _ _ _ e _ h.0 a in
    let tail = entries_back version texts postings (tp + length e.text) (pp + length e.postings) es h.1 f.ahead in
    λ i. (entry_back _ _ _ _ _ e _ _ f refl) i ∷ tail i

moved : (version : ℕ) (texts : List ℕ) (total a a' b b' c : ℕ) (t t' : List ℕ) (n : ℕ) (d : List ℕ) → a ≡ a' → b ≡ b'
    → t ≡ t' → AreEntries version texts total a b c t n d → AreEntries version texts total a' b' c t' n d
moved version texts total a _ b _ c t _ n d p q r h = grind arith

pub are_entries_of : (version : ℕ) (texts postings : List ℕ) (tp pp number : ℕ) (text : List ℕ)
    (es : List DirectoryEntry)
    → AllByRecursion (IsEntry version) es → IsAhead texts postings tp pp es → AreAfter number text es
    → AreEntries version texts (length postings) tp pp number text (length es) (directory_from tp pp es)
are_entries_of _ texts postings tp pp _ _ [] h a s = (
  omega (arith, (sym (length-drop tp texts) ∙ ap length a.texts_spelled), a.text_bound),
  omega (arith, (sym (length-drop pp postings) ∙ ap length a.postings_spelled), a.bound),
)
are_entries_of version texts postings tp pp number text (e ∷ es) h a s =
    let d = directory_from tp pp (e ∷ es) in
    let f = front_entry version texts postings tp pp e es h.0 a in
    let x : IsEntryAt version texts (length postings) tp pp number text d = grind (arith, key_cmp, kind_number) in
    let more = are_entries_of version texts postings (tp + length e.text) (pp + length e.postings) (kind_number e.kind)
    e.text es h.1 f.ahead s.1 in
    grind (arith, moved)

-- The keys of a directory are read entry by entry, and they are sorted because each entry comes after the one before
-- it.
use Rattle.mail_index.proofs.Words.{◌≡◌, ◌∙◌, ℕ, zero, suc, ◌+◌, ◌-◌, ◌*◌, ◌^◌, ◌<◌, ◌≤◌, List, [], ◌∷◌, length, map, drop, refl, sym, ap, subst, arith, length-drop, AllByRecursion, Less, nat_cmp, slice_cmp, IsStrictlySortedBy, nat_list_cmp_total, drop-drop, length-map, kind_number, kind_of_number, byte_at, u32_at, u64_at, Key, ArePosted, end_before, text_at, read_entry, IsEntryAt, AreEntries, list_at, AreLists, key_of, keys_read, IsDirectory, key_at, AreSorted}
use Rattle.mail_index.specs.Inside.FrontEntries.{IsInFront}
use Rattle.mail_index.proofs.Items.{all-weaker}
use Rattle.mail_index.proofs.ViewLaws.KindNumbers.{kind_kept, few_kinds}
use Rattle.mail_index.proofs.ViewLaws.LookUpLemmas.{key_bytes}
use Rattle.mail_index.proofs.ViewLaws.DirectorySections.{entry_kind}
use Rattle.mail_index.proofs.ViewLaws.Opening.{count_entries}

-- ---- the entry of a number

pub length-keys_read : (texts postings : List ℕ) (n : ℕ) (d : List ℕ) → length (keys_read texts postings n d) ≡ n
length-keys_read texts postings n d = length-map _ _ ∙ count_entries _ _ n d

pub key_at-read : (texts postings : List ℕ) (n : ℕ) (d : List ℕ) (i : ℕ) → i < n
    → key_at (keys_read texts postings n d) i ≡ key_of (read_entry texts postings (drop (24 * i) d))
key_at-read _ _ zero d i h = absurd (omega arith)
key_at-read _ _ (suc n) d zero h = refl
key_at-read texts postings (suc n) d (suc i) h =
    let place : 24 + 24 * i ≡ 24 * suc i = omega arith in
    key_at-read texts postings n (drop 24 d) i (omega arith)
    ∙ ap (λ (l : List ℕ). key_of (read_entry texts postings l)) (drop-drop _ _ d ∙ ap (λ (k : ℕ). drop k d) place)

-- what is true of each entry
record BeginsWithEntry (texts : List ℕ) (total : ℕ) (d : List ℕ) : Type 0 where
  pub kind : kind_number (kind_of_number (byte_at d 0)) ≡ byte_at d 0
  pub text : u64_at d 8 + u32_at d 4 ≤ length texts
  pub begins : u64_at d 16 < end_before (drop 24 d) total
  pub ends : end_before (drop 24 d) total ≤ total

entry_is : (version : ℕ) (texts : List ℕ) (total tp pp number : ℕ) (text d : List ℕ)
    → IsEntryAt version texts total tp pp number text d → BeginsWithEntry texts total d
entry_is version _ _ _ _ _ text d h = record {
  kind = kind_kept _ _ (few_kinds _) (entry_kind _ d h.spelled);
  text = omega arith;
  begins = omega arith;
  ends = h.end;
}

entry-at : (version : ℕ) (texts : List ℕ) (total tp pp number : ℕ) (text : List ℕ) (n : ℕ) (d : List ℕ) (i : ℕ)
    → AreEntries version texts total tp pp number text n d → i < n → BeginsWithEntry texts total (drop (24 * i) d)
entry-at _ _ _ _ _ _ _ zero d i h lt = absurd (omega arith)
entry-at version texts total tp pp number text (suc n) d zero h _ = entry_is _ _ _ _ _ _ _ d h.0
entry-at version texts total tp _ _ _ (suc n) d (suc i) h lt =
    let place : 24 + 24 * i ≡ 24 * suc i = omega arith in
    rw (← (drop-drop _ _ d ∙ ap (λ (k : ℕ). drop k d) place))
    (entry-at version texts total (tp + u32_at d 4) (end_before (drop 24 d) total) (byte_at d 0) (text_at texts d) n
    (drop 24 d) i h.1 (omega arith))

list-at : (messages : ℕ) (postings : List ℕ) (n : ℕ) (d : List ℕ) (i : ℕ) → messages ≤ 2 ^ 32
    → AreLists messages postings n d → i < n → ArePosted (2 ^ 32) 0 (list_at postings (drop (24 * i) d))
list-at _ _ zero d i few h lt = absurd (omega arith)
list-at messages _ (suc n) d zero few h lt = grind (arith, all-weaker)
list-at messages postings (suc n) d (suc i) few h lt =
    let place : 24 + 24 * i ≡ 24 * suc i = omega arith in
    rw (← (drop-drop _ _ d ∙ ap (λ (k : ℕ). drop k d) place))
    (list-at messages postings n (drop 24 d) i few h.1 (omega arith))

-- ---- the order of the keys

-- each key comes after this one
after_first : (c : List ℕ) (d e : List ℕ) → slice_cmp nat_cmp c d ≡ Less → slice_cmp nat_cmp d e ≡ Less
    → slice_cmp nat_cmp c e ≡ Less
after_first c d e h k = nat_list_cmp_total.trans c d e h k

all_after : (c b : List ℕ) (ks : List (List ℕ)) → slice_cmp nat_cmp c b ≡ Less
    → AllByRecursion (λ k. slice_cmp nat_cmp b k ≡ Less) ks → AllByRecursion (λ k. slice_cmp nat_cmp c k ≡ Less) ks
all_after c b [] h _ = tt
all_after c b (k ∷ ks) h later = (after_first c b k h later.0, all_after c b ks h later.1)

pub record IsSortedAfter (number : ℕ) (text : List ℕ) (ks : List Key) : Type 0 where
  pub after : AllByRecursion (λ k. slice_cmp nat_cmp (number ∷ text) k ≡ Less) (map key_bytes ks)
  pub sorted : AreSorted ks

pub sorted-entries : (version : ℕ) (texts postings : List ℕ) (total tp pp number : ℕ) (text : List ℕ) (n : ℕ)
    (d : List ℕ) → AreEntries version texts total tp pp number text n d
    → IsSortedAfter number text (keys_read texts postings n d)
unfolding read_entry IsStrictlySortedBy
sorted-entries _ _ _ _ _ _ _ _ zero d h = record { after = tt; sorted = tt }
sorted-entries version texts postings total tp pp number text (suc n) d h =
    let more = sorted-entries version texts postings total (tp + u32_at d 4) (end_before (drop 24 d) total)
    (byte_at d 0) (text_at texts d) n (drop 24 d) h.1 in
    let kind = (entry_is _ _ _ _ _ _ _ d h.0).kind in
    let here = ap (λ (k : ℕ). slice_cmp nat_cmp (number ∷ text) (k ∷ text_at texts d)) kind ∙ h.0.after in
    let later = rw (← kind) at more.after in
    record {
      after = (
        here,
        all_after (number ∷ text) (kind_number (kind_of_number (byte_at d 0)) ∷ text_at texts d) _ here later,
      );
      sorted = (later, more.sorted);
    }

pub directory-sorted : (texts postings : List ℕ) (count : ℕ) (entries : List ℕ)
    → IsDirectory texts postings count entries → AreSorted (keys_read texts postings count entries)
directory-sorted texts postings count entries h = (sorted-entries _ _ _ _ 0 0 0 _ _ _ h.sorted).sorted

-- ---- the entry at a number

pub number-below : (texts postings : List ℕ) (count : ℕ) (entries : List ℕ) (keys : List Key) (number : ℕ)
    → keys_read texts postings count entries ≡ keys → number < length keys → number < count
number-below texts postings count entries _ _ view less = omega (arith, ap length view, length-keys_read)

-- the directory from the entry of a number on
pub record IsRest (texts postings : List ℕ) (keys : List Key) (number : ℕ) (rest : List ℕ) : Type 0 where
  pub front : IsInFront texts postings rest
  pub key : key_at keys number ≡ key_of (read_entry texts postings rest)

pub rest-at : (texts postings : List ℕ) (count : ℕ) (entries : List ℕ) (keys : List Key) (number : ℕ) (rest : List ℕ)
    → IsDirectory texts postings count entries
    → keys_read texts postings count entries ≡ keys → number < length keys → rest ≡ drop (24 * number) entries
    → IsRest texts postings keys number rest
rest-at texts postings count entries keys number rest h view less back =
    let below = number-below _ _ _ _ _ _ view less in
    let long = ap length back ∙ length-drop (24 * number) entries ∙ ap (λ (n : ℕ). n - 24 * number) h.long in
    let entry = subst (BeginsWithEntry texts (length postings)) (sym back) (entry-at _ _ _ 0 0 0 _ _ _ _ h.sorted below)
    in
    record {
      front = record {
        long = omega arith;
        whole = λ more. omega arith;
        kind = entry.kind;
        text = entry.text;
        begins = entry.begins;
        ends = entry.ends;
        posted = rw back (list-at _ _ _ _ _ h.few h.lists below);
      };
      key = grind (arith, key_at, key_at-read, key_of, read_entry);
    }

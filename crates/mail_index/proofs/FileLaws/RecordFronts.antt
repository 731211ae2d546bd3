-- Two equal lists of bytes that begin with records, or with lists of numbers, begin with equal ones.
use Rattle.mail_index.proofs.Words.{◌≡◌, ℕ, zero, suc, ◌+◌, ◌-◌, ◌/◌, ◌%◌, ◌^◌, ◌<◌, ◌≤◌, Bool, ltb, List, [], ◌∷◌, ◌++◌, length, get_or, Option, refl, sym, ap, ◌∙◌, arith, ℤ, ltb-true, flat_map, IfSome, FitsSigned, is_some, AllByRecursion, w64, to_z-of_z, Record, Archive, IsMessage, RisesFrom, Key, IsKey, archive_length, leb128, differences_from, postings, zeros, be32, be64, bit, flags_byte, date_number, record_bytes}
use Rattle.mail_index.proofs.FileLaws.Fronts.{concat_then, same_parts, be32_is, be64_is}

abbrev pub at : List (List ℕ) → ℕ → List ℕ
at xs i = get_or xs i []

pub same_at : (xs ys : List (List ℕ)) (i : ℕ) → xs ≡ ys → at xs i ≡ at ys i
same_at _ _ i e = ap (λ (l : List (List ℕ)). at l i) e

-- ---- records

flags_is : (a b c d e f g h : Bool) → bit 1 a + bit 2 b + bit 4 c + bit 8 d ≡ bit 1 e + bit 2 f + bit 4 g + bit 8 h
    → (a ≡ e) × (b ≡ f) × (c ≡ g) × (d ≡ h)
flags_is a b c d e f g h s = grind (arith, bit)

date_is : (a b : Option ℤ) → IfSome a (FitsSigned w64) → IfSome b (FitsSigned w64) → is_some a ≡ is_some b
    → be64 (date_number a) ≡ be64 (date_number b) → a ≡ b
date_is a b h h2 h3 h4 = grind (arith, be64_is, to_z-of_z)

record_list : Record → List (List ℕ)
record_list m = be32 m.archive ∷ (flags_byte m ∷ zeros) ∷ be64 m.offset ∷ be64 m.length ∷ be64 m.size ∷ be64
    (date_number m.date) ∷ []

abbrev pub HasFew : List Archive → Record → Type 0
HasFew archives m = IsMessage archives m × (length archives < 2 ^ 32) × (archive_length archives m.archive ≤ 2 ^ 40)

pub message_front : (archives : List Archive) (a b : Record) (x y : List ℕ) → HasFew archives a → HasFew archives b
    → record_bytes a ++ x ≡ record_bytes b ++ y → (a ≡ b) × (x ≡ y)
unfolding record_list
message_front _ a b x y p q e =
    let e' = sym (concat_then (record_list a) x) ∙ e ∙ concat_then (record_list b) y in
    let s = same_parts (record_list a) (record_list b) x y refl e' in
    let archive = be32_is _ _ (omega arith) (omega arith) (same_at _ _ 0 s.0) in
    let flags = ap (λ (l : List ℕ). get_or l 0 0) (same_at _ _ 1 s.0) in
    let f = flags_is _ _ _ _ _ _ _ _ flags in
    let offset = be64_is _ _ (omega arith) (omega arith) (same_at _ _ 2 s.0) in
    let span = be64_is _ _ (omega arith) (omega arith) (same_at _ _ 3 s.0) in
    let size = be64_is _ _ (omega arith) (omega arith) (same_at _ _ 4 s.0) in
    let date = date_is _ _ p.0.date q.0.date f.3 (same_at _ _ 5 s.0) in (
      λ i. record {
        archive = archive i;
        offset = offset i;
        length = span i;
        size = size i;
        date = date i;
        flags = record { seen = f.0 i; replied = f.1 i; flagged = f.2 i };
      },
      s.1,
    )

-- ---- postings

abbrev Small : ℕ → ℕ → Type 0
Small zero n = n < 1
Small (suc k) n = Small k (n / 128)

pub leb_front : (k n m : ℕ) (x y : List ℕ) → Small k n → Small k m → leb128 k n ++ x ≡ leb128 k m ++ y → (n ≡ m)
    × (x ≡ y)
leb_front zero n m x y p q e = (omega arith, e)
leb_front (suc k) n m x y p q e = grind (arith, ltb-true, leb128, leb_front k (n / 128) (m / 128) x y p q)

pub leb_some : (k n : ℕ) (x : List ℕ) → leb128 (suc k) n ++ x ≡ [] → ⊥
leb_some k n x e = grind (arith, ltb, leb128)

whole : (xs ys : List ℕ) → AllByRecursion (Small 5) xs → AllByRecursion (Small 5) ys → flat_map (leb128 5) xs
    ≡ flat_map (leb128 5) ys → xs ≡ ys
whole [] [] p q e = refl
whole [] (b ∷ ys) p q e = absurd (leb_some 4 b _ (sym e))
whole (a ∷ xs) [] p q e = absurd (leb_some 4 a _ e)
whole (a ∷ xs) (b ∷ ys) p q e =
    let s = leb_front 5 a b _ _ p.0 q.0 e in
    let r = whole xs ys p.1 q.1 s.1 in
    cc

differences_is : (low : ℕ) (xs ys : List ℕ) → RisesFrom low xs → RisesFrom low ys → differences_from low xs
    ≡ differences_from low ys → xs ≡ ys
differences_is _ [] [] p q e = refl
differences_is _ [] (b ∷ ys) p q e = absurd cc
differences_is _ (a ∷ xs) [] p q e = absurd cc
differences_is low (a ∷ xs) (b ∷ ys) p q e =
    let d : suc a - low ≡ suc b - low = cc in
    let h : a ≡ b = omega arith in
    let t : differences_from (suc a) xs ≡ differences_from (suc b) ys = cc in
    let r = differences_is (suc a) xs ys p.1 (rw h q.1) (t ∙ ap (λ (n : ℕ). differences_from n ys) (ap suc (sym h))) in
    cc

small_differences : (count low : ℕ) (xs : List ℕ) → count < 2 ^ 32 → AllByRecursion (λ n. n < count) xs
    → AllByRecursion (Small 5) (differences_from low xs)
small_differences _ _ [] h p = tt
small_differences count _ (x ∷ xs) h p = (omega arith, small_differences count (suc x) xs h p.1)

pub numbers_are : (version count : ℕ) (a b : Key) → count < 2 ^ 32 → IsKey version count a → IsKey version count b
    → postings a.numbers ≡ postings b.numbers → a.numbers ≡ b.numbers
numbers_are _ _ a b h p q e = grind (arith, differences_is, whole, small_differences)

-- Postings are read back: the bytes of rising numbers give these numbers, difference by difference.
use Rattle.mail_index.proofs.Words.{◌≡◌, ◌∙◌, ℕ, zero, suc, ◌+◌, ◌-◌, ◌*◌, ◌/◌, ◌%◌, ◌^◌, ◌<◌, ◌≤◌, Bool, true, false, cond, nat_lt, List, [], ◌∷◌, ◌++◌, length, Option, Some, None, refl, sym, ap, ap₂, arith, length-append, AllByRecursion, is_some, false≢true, nat_tests, add-mul, mul_assoc, RisesFrom, leb128, postings_from, IsShort, numbers_after, numbers_read, ArePostings, ArePosted}
use Rattle.mail_index.proofs.FileLaws.RecordFronts.{leb_front, leb_some}

-- ---- a difference

-- the lowest seven bits, and the rest, each at its weight
weights : (k p w : ℕ) → (p + (128 + k % 128 - 128) * w) + (k / 128) * (128 * w) ≡ p + k * w
weights k p w = grind (arith, mul_assoc, add-mul)

after-last : (low p w b : ℕ) (bs : List ℕ) → b < 128 → numbers_after low p w (b ∷ bs)
    ≡ (low + (p + b * w) - 1) ∷ numbers_after (low + (p + b * w)) 0 1 bs
after-last _ p w b _ h = grind (arith, numbers_after)

after-more : (low p w b : ℕ) (bs : List ℕ) → 128 ≤ b → numbers_after low p w (b ∷ bs)
    ≡ numbers_after low (p + (b - 128) * w) (128 * w) bs
after-more _ p w b _ h = grind (arith, numbers_after)

-- the numbers after a difference k has been read to its end
abbrev told : ℕ → ℕ → List ℕ → List ℕ
told low difference bs = (low + difference - 1) ∷ numbers_after (low + difference) 0 1 bs

numbers_after-leb128 : (groups low p w k : ℕ) (bs : List ℕ) → IsShort (suc groups) k
    → numbers_after low p w (leb128 (suc groups) k ++ bs) ≡ told low (p + k * w) bs
numbers_after-leb128 zero _ p w k _ h = grind (arith, nat_tests, after-last)
numbers_after-leb128 (suc groups) low p w k bs h =
    go _ refl (numbers_after-leb128 groups low (p + (128 + k % 128 - 128) * w) (128 * w) (k / 128) bs h)
  where
    go : (t : Bool) → nat_lt k 128 ≡ t
        → numbers_after low (p + (128 + k % 128 - 128) * w) (128 * w) (leb128 (suc groups) (k / 128) ++ bs)
        ≡ told low ((p + (128 + k % 128 - 128) * w) + (k / 128) * (128 * w)) bs
        → numbers_after low p w (cond t (k ∷ []) ((128 + k % 128) ∷ leb128 (suc groups) (k / 128)) ++ bs)
        ≡ told low (p + k * w) bs
    go true e later = grind (arith, after-last)
    go false e later = after-more _ p w _ (leb128 (suc groups) (k / 128) ++ bs) (omega arith) ∙ later
        ∙ ap (λ d. told low d bs) (weights k p w)

pub numbers_read-first : (low k : ℕ) (bs : List ℕ) → IsShort 5 k → numbers_read low (leb128 5 k ++ bs)
    ≡ (low + k - 1) ∷ numbers_read (low + k) bs
unfolding numbers_read
numbers_read-first low k bs h = numbers_after-leb128 4 _ 0 1 k _ h ∙ ap (λ d. told low d bs) (omega arith)

-- ---- all numbers

short-difference : (n low : ℕ) → n < 2 ^ 32 → IsShort 5 (suc n - low)
short-difference n _ h = omega arith

pub numbers_read-postings : (low : ℕ) (ns : List ℕ) → RisesFrom low ns → AllByRecursion (λ n. n < 2 ^ 32) ns
    → numbers_read low (postings_from low ns) ≡ ns
unfolding numbers_read
numbers_read-postings _ [] _ _ = refl
numbers_read-postings low (n ∷ ns) rises below =
    grind (
      arith,
      numbers_read-first,
      short-difference,
      numbers_read,
      postings_from,
      numbers_read-postings (suc n) ns rises.1 below.1,
    )

pub read-posted : (low : ℕ) (bytes ns : List ℕ) → ArePostings (2 ^ 32) low bytes ns → numbers_read low bytes ≡ ns
read-posted low _ ns h = ap (numbers_read low) h.spelled ∙ numbers_read-postings _ _ h.rises h.below

-- ---- the first difference of postings

-- no number
pub posted-none : (limit low : ℕ) (bytes ns : List ℕ) (r : Option (ℕ × List ℕ)) → limit ≤ 2 ^ 32
    → ((k : ℕ) (rest : List ℕ) → IsShort 5 k → bytes ≡ leb128 5 k ++ rest → r ≡ Some (k, rest)) → r ≡ None
    → ArePostings limit low bytes ns → ns ≡ []
posted-none _ _ _ [] r _ _ _ h = refl
posted-none _ _ _ (n ∷ ns) r le only none h = grind (arith, postings_from, short-difference, false≢true, is_some)

-- a number, and the numbers after it
pub record Front (limit low difference : ℕ) (after ns : List ℕ) : Type 0 where
  pub some : 0 < difference
  pub below : low + difference ≤ limit
  pub later : List ℕ
  pub numbers : ns ≡ (low + difference - 1) ∷ later
  pub posted : ArePostings limit (low + difference) after later

pub posted-front : (limit low difference : ℕ) (bytes after ns : List ℕ) → limit ≤ 2 ^ 32 → IsShort 5 difference → bytes
    ≡ leb128 5 difference ++ after
    → ArePostings limit low bytes ns → Front limit low difference after ns
posted-front _ _ d _ _ [] le short split h = grind (arith, leb128, leb_some)
posted-front _ low d _ after (n ∷ ns) le short split h =
    let same = leb_front 5 d _ _ _ short (short-difference n _ (omega arith)) (sym split ∙ h.spelled) in
    let next : suc n ≡ low + d = omega arith in
    grind (arith, postings_from)

-- a number before others
pub posted-back : (limit low difference : ℕ) (bytes after : List ℕ) → 0 < difference → low + difference ≤ limit → bytes
    ≡ leb128 5 difference ++ after
    → ArePosted limit (low + difference) after → ArePosted limit low bytes
posted-back _ low d _ _ some below split h =
    let n : ℕ = low + d - 1 in
    let next : low + d ≡ suc n = omega arith in (
      n ∷ h.0,
      record {
        rises = (omega arith, rw (← next) h.1.rises);
        below = (omega arith, h.1.below);
        spelled = split ∙ ap₂ (λ (k : ℕ) (l : List ℕ). leb128 5 k ++ l) (omega arith)
            (h.1.spelled ∙ ap (λ (m : ℕ). postings_from m h.0) next);
      },
    )

-- a difference has at least one byte
pub posted-shorter : (difference : ℕ) (bytes after : List ℕ) → bytes ≡ leb128 5 difference ++ after
    → length after < length bytes
posted-shorter d _ _ split = grind (arith, leb128, length-append)

-- bytes that aren't empty and begin with no difference are no postings
pub posted-refused : (limit low : ℕ) (bytes : List ℕ) (r : Option (ℕ × List ℕ)) → limit ≤ 2 ^ 32
    → ((k : ℕ) (rest : List ℕ) → IsShort 5 k → bytes ≡ leb128 5 k ++ rest → r ≡ Some (k, rest)) → r ≡ None
    → 0 < length bytes → ArePosted limit low bytes → ⊥
posted-refused limit low bytes r le only none some h =
    let bare = h.1.spelled ∙ ap (postings_from low) (posted-none _ _ _ _ r le only none h.1) in
    absurd (omega (arith, ap length bare))

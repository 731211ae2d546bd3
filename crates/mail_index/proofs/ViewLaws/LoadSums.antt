-- A load of sixteen bytes: what its mask says of its bytes, and that two sums of its lanes are the sum of their
-- weights.
use lib.Lanes.{Each1, Each2, dots, fold_l, mask_l, products, sel_l, sum_l, top, zip2}
use Rattle.mail_index.proofs.Words.{◌≡◌, ◌∙◌, ℕ, zero, suc, ◌+◌, ◌*◌, ◌%◌, ◌^◌, ◌<◌, ◌≤◌, ◌&&◌, ◌||◌, ◌⊎◌, Bool, true, false, cond, nat_lt, if◌then◌else◌, List, [], ◌∷◌, length, take, map, get_or, refl, sym, ap, subst, arith, replicate, length-take-le, length-map, Fits, w8}
use Rattle.std.proofs.Common.{bit_and, eqb, leb}
use Rattle.std.proofs.lemmas.Nat.{and_mask}
use Rattle.std.proofs.lemmas.Simd.{bytes_below, fold-sum, pick_l-range_with_len, sum_bound, sum_by-ones, sum_dots, tops_compared, zip2_splat, zip2_splat_left, length-sel_l}
use Rattle.mail_index.specs.Inside.ShortDifferences.{AreShort, IsShortPair, weight, sum_in_load}

-- ---- the byte before each lane

pub bytes_before-is : (v : List ℕ) → length v ≡ 16
    → 0 ∷ get_or v 0 0 ∷ get_or v 1 0 ∷ get_or v 2 0 ∷ get_or v 3 0 ∷ get_or v 4 0 ∷ get_or v 5 0 ∷ get_or v 6 0
    ∷ get_or v 7 0 ∷ get_or v 8 0 ∷ get_or v 9 0 ∷ get_or v 10 0 ∷ get_or v 11 0 ∷ get_or v 12 0 ∷ get_or v 13 0
    ∷ get_or v 14 0 ∷ [] ≡ take (length v) (0 ∷ v)
bytes_before-is v long = grind (arith, pick_l-range_with_len, take)

-- the last byte comes before no lane
before_right : {X : Type 0} (f : ℕ → ℕ → X) (p : ℕ) (xs : List ℕ) → zip2 f xs (take (length xs) (p ∷ xs))
    ≡ zip2 f xs (p ∷ xs)
before_right f p [] = refl
before_right f p (x ∷ xs) = ap (λ l. f x p ∷ l) (before_right f x xs)

before_left : {X : Type 0} (f : ℕ → ℕ → X) (p : ℕ) (xs : List ℕ) → zip2 f (take (length xs) (p ∷ xs)) xs
    ≡ zip2 f (p ∷ xs) xs
before_left f p [] = refl
before_left f p (x ∷ xs) = ap (λ l. f p x ∷ l) (before_left f x xs)

-- ---- a mask without a bit

-- the byte is 0, or the second of two whose high bits are set
abbrev is_fault : ℕ → ℕ → Bool
is_fault b before = eqb b 0 || leb 128 before && leb 128 b

may_follow : (p b : ℕ) → is_fault b p ≡ false → IsShortPair p b
may_follow p b h = grind arith

no_bit : (b : Bool) (n : ℕ) → cond b 1 0 + 2 * n ≡ 0 → (b ≡ false) × (n ≡ 0)
no_bit true n h = absurd (omega arith)
no_bit false n h = (refl, omega arith)

none_faulty : (p : ℕ) (bs : List ℕ) → mask_l (zip2 is_fault bs (p ∷ bs)) ≡ 0 → Each2 IsShortPair (p ∷ bs) bs
none_faulty p [] h = tt
none_faulty p (b ∷ bs) h =
    let parts = no_bit _ _ h in
    (may_follow p b parts.0, none_faulty b bs parts.1)

-- ---- sums

sel-fits : (ms : List Bool) (xs ys : List ℕ) → Each1 (Fits w8) xs → Each1 (Fits w8) ys
    → Each1 (Fits w8) (sel_l ms xs ys)
sel-fits [] _ _ f g = tt
sel-fits (m ∷ ms) [] _ f g = tt
sel-fits (m ∷ ms) (x ∷ xs) [] f g = tt
sel-fits (true ∷ ms) (x ∷ xs) (y ∷ ys) f g = (f.0, sel-fits ms xs ys f.1 g.1)
sel-fits (false ∷ ms) (x ∷ xs) (y ∷ ys) f g = (g.0, sel-fits ms xs ys f.1 g.1)

low-fits : (v : List ℕ) → Each1 (Fits w8) (map (λ b. b % 128) v)
low-fits [] = tt
low-fits (b ∷ bs) = (record { fits = omega arith }, low-fits bs)

zeros-fit : (n : ℕ) → Each1 (Fits w8) (replicate n 0)
zeros-fit zero = tt
zeros-fit (suc n) = (record { fits = omega arith }, zeros-fit n)

sum_of_dots : (xs : List ℕ) → length xs ≡ 16 → sum_l (dots xs (replicate 16 1)) ≡ sum_l xs
sum_of_dots xs long = (sum_dots 4 _ _ long refl).0
    ∙ subst (λ (n : ℕ). sum_l (products xs (replicate n 1)) ≡ sum_l xs) long (sum_by-ones _)

pub sum_small : (xs : List ℕ) → length xs ≡ 16 → Each1 (Fits w8) xs → 0 + sum_l (dots xs (replicate 16 1)) < 2 ^ 32
sum_small xs long fits = omega (arith, sum_of_dots _ long, sum_bound _ _ (bytes_below _ fits), long)

-- sixteen bytes have a sum of twelve bits
pub fold_small : (xs : List ℕ) (s : ℕ) → length xs ≡ 16 → Each1 (Fits w8) xs
    → s ≡ fold_l (λ (n x : ℕ). n + x) 0 (dots xs (replicate 16 1)) → s < 4096
fold_small xs s long fits is = omega (
  arith,
  is,
  fold-sum 0 (dots xs (replicate 16 1)),
  sum_of_dots _ long,
  sum_bound _ _ (bytes_below _ fits),
  long,
)

once : (b m : ℕ) → m + 127 * cond (leb 128 b) m 0 ≡ (if nat_lt b 128 then m else 128 * m)
once b m = grind arith

weigh : (n : ℕ) (bs vs : List ℕ) → length bs ≡ n → length vs ≡ n
    → sum_l (map (λ b. b % 128) vs) + 127 * sum_l (sel_l (map (leb 128) bs) (map (λ b. b % 128) vs) (replicate n 0))
    ≡ sum_l (zip2 weight bs vs)
weigh n [] [] p q = refl
weigh n [] (v ∷ vs) p q = absurd (omega arith)
weigh n (b ∷ bs) [] p q = absurd (omega arith)
weigh zero (b ∷ bs) (v ∷ vs) p q = absurd (omega arith)
weigh (suc n) (b ∷ bs) (v ∷ vs) p q = omega (arith, once, weigh n bs vs (omega arith) (omega arith))

-- sixteen lanes, and the byte before each
pub record IsLoad (v before : List ℕ) : Type 0 where
  pub long : length v ≡ 16
  pub is : before ≡ take (length v) (0 ∷ v)

module _ {v before : List ℕ} (load : IsLoad v before) where
  pub long_before : length before ≡ 16
  long_before = omega (arith, ap length load.is, length-take-le (length v) (0 ∷ v) (omega arith), load.long)

  pub load_short : (m : ℕ) → m ≡ mask_l (zip2 is_fault v before) → m ≡ 0 → AreShort v
  load_short m mask none = none_faulty 0 v (ap mask_l (sym (before_right is_fault 0 v))
      ∙ ap (λ (l : List ℕ). mask_l (zip2 is_fault v l)) (sym load.is) ∙ sym mask ∙ none)

  -- the lanes' low bits, and those of second bytes
  abbrev pub lows : List ℕ
  lows = zip2 bit_and v (replicate 16 127)

  abbrev pub seconds : List ℕ
  seconds = sel_l (map (top 7) (zip2 (λ a b. cond (leb a b) 255 0) (replicate 16 128) before)) lows (replicate 16 0)

  lows-are : lows ≡ map (λ b. b % 128) v
  lows-are = zip2_splat bit_and v 16 127 load.long ∙ (λ i. map (λ b. and_mask b 7 i) v)

  marks-are : map (top 7) (zip2 (λ a b. cond (leb a b) 255 0) (replicate 16 128) before) ≡ map (leb 128) before
  marks-are = tops_compared w8 leb (replicate 16 128) before ∙ zip2_splat_left leb 128 16 before long_before

  pub long_lows : length lows ≡ 16
  long_lows = ap length lows-are ∙ length-map v (λ b. b % 128) ∙ load.long

  pub lows_fit : Each1 (Fits w8) lows
  lows_fit = subst (Each1 (Fits w8)) (sym lows-are) (low-fits v)

  pub long_seconds : length seconds ≡ 16
  long_seconds =
      let marked : length (map (top 7) (zip2 (λ a b. cond (leb a b) 255 0) (replicate 16 128) before)) ≡ 16 =
      ap length marks-are ∙ length-map before (leb 128) ∙ long_before in
      length-sel_l _ lows (replicate 16 0) (marked ∙ sym long_lows) marked ∙ marked

  pub seconds_fit : Each1 (Fits w8) seconds
  seconds_fit = sel-fits _ lows (replicate 16 0) lows_fit (zeros-fit 16)

  seconds-are : seconds ≡ sel_l (map (leb 128) before) (map (λ b. b % 128) v) (replicate 16 0)
  seconds-are = λ i. sel_l (marks-are i) (lows-are i) (replicate 16 0)

  pub load_sum : (s t : ℕ) → s ≡ fold_l (λ (n x : ℕ). n + x) 0 (dots lows (replicate 16 1))
      → t ≡ fold_l (λ (n x : ℕ). n + x) 0 (dots seconds (replicate 16 1)) → s + 127 * t ≡ sum_in_load v
  load_sum s t first second =
      let one : s ≡ sum_l (map (λ b. b % 128) v) =
      omega (arith, first, fold-sum 0 (dots lows (replicate 16 1)), sum_of_dots lows long_lows, ap sum_l lows-are) in
      let two : t ≡ sum_l (sel_l (map (leb 128) before) (map (λ b. b % 128) v) (replicate 16 0)) =
      omega (
        arith,
        second,
        fold-sum 0 (dots seconds (replicate 16 1)),
        sum_of_dots seconds long_seconds,
        ap sum_l seconds-are,
      ) in
      (λ i. one i + 127 * two i) ∙ weigh 16 before v long_before load.long
      ∙ ap (λ (l : List ℕ). sum_l (zip2 weight l v)) load.is ∙ ap sum_l (before_left weight 0 v)

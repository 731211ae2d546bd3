-- Two loads, the second with the byte after each of the first: the lanes whose two bytes pass a test, found from a
-- mask.
use lib.Count.{count_trailing_zeros}
use lib.Lanes.{chunk, mask_l, top, zip2}
use mathlib.Core.List.{map-id}
use Rattle.mail_words.proofs.Imports.{◌≡◌, ℕ, zero, suc, ◌+◌, ◌-◌, ◌*◌, ◌%◌, ◌^◌, ◌<◌, ◌≤◌, cond, Bool, false, not, ◌&&◌, ◌||◌, List, [], ◌∷◌, length, get_or, replicate, bit_and, bit_or, eqb, leb, refl, sym, ap, ◌∙◌, subst, arith, inl, inr, cases_lt, mask_l-mod, length-chunk, get_or-chunk, prefix_len, first_set_mask_l}
use Rattle.std.proofs.Common.{map}
use Rattle.std.proofs.lemmas.Bool.{not-true}
use Rattle.std.proofs.lemmas.List.Sums.{prefix_len-le-length, prefix_len_passes}
use Rattle.std.proofs.lemmas.Simd.{length-zip2, get_or-zip2}
use Rattle.mail_words.specs.Inside.Folds.{is_stop, is_stop_at}

-- ---- masks in lanes: all bits of a lane are set, or none

abbrev pub ones : Bool → ℕ
ones b = cond b 255 0

top_ones : (t : Bool) → top 7 (ones t) ≡ t
top_ones t = grind arith

-- the lanes z have all bits set where the test of the two bytes holds
pub record Marks (xs ys : List ℕ) (t : ℕ → ℕ → Bool) (z : List ℕ) : Type 0 where
  pub lanes : z ≡ zip2 (λ a b. ones (t a b)) xs ys

both : (h f g : ℕ → ℕ → ℕ) (xs ys : List ℕ) → zip2 h (zip2 f xs ys) (zip2 g xs ys)
    ≡ zip2 (λ a b. h (f a b) (g a b)) xs ys
both h f g [] ys = refl
both h f g (x ∷ xs) [] = refl
both h f g (x ∷ xs) (y ∷ ys) = grind (arith, both h f g xs ys)

each : {X : Type 0} (h : ℕ → X) (f : ℕ → ℕ → ℕ) (xs ys : List ℕ) → map h (zip2 f xs ys) ≡ zip2 (λ a b. h (f a b)) xs ys
each h f [] ys = refl
each h f (x ∷ xs) [] = refl
each h f (x ∷ xs) (y ∷ ys) = ap (λ l. h (f x y) ∷ l) (each h f xs ys)

pub marks-or : {xs ys : List ℕ} {s t : ℕ → ℕ → Bool} {x y : List ℕ} → Marks xs ys s x → Marks xs ys t y
    → Marks xs ys (λ a b. s a b || t a b) (zip2 bit_or x y)
marks-or {xs = xs} {ys = ys} {s = s} {t = t} h k = grind (arith, both)

pub marks-and : {xs ys : List ℕ} {s t : ℕ → ℕ → Bool} {x y : List ℕ} → Marks xs ys s x → Marks xs ys t y
    → Marks xs ys (λ a b. s a b && t a b) (zip2 bit_and x y)
marks-and {xs = xs} {ys = ys} {s = s} {t = t} h k = grind (arith, both)

pub marks-not : {xs ys : List ℕ} {t : ℕ → ℕ → Bool} {y : List ℕ} → Marks xs ys t y
    → Marks xs ys (λ a b. not (t a b)) (map (λ n. 255 - n) y)
marks-not {xs = xs} {ys = ys} {t = t} k = grind (arith, each)

-- ---- comparisons with one byte

module _ (f : ℕ → ℕ → ℕ) (k : ℕ) where
  first_left : (xs ys : List ℕ) (n : ℕ) → length xs ≡ n → length ys ≡ n → zip2 f xs (replicate n k)
      ≡ zip2 (λ a b. f a k) xs ys
  first_left [] ys n p q = refl
  first_left (x ∷ xs) [] n p q = absurd (omega (arith, p, q))
  first_left (x ∷ xs) (y ∷ ys) zero p q = absurd (omega (arith, p))
  first_left (x ∷ xs) (y ∷ ys) (suc n) p q = grind (arith, first_left xs ys n)

  first_right : (xs ys : List ℕ) (n : ℕ) → length xs ≡ n → length ys ≡ n → zip2 f (replicate n k) xs
      ≡ zip2 (λ a b. f k a) xs ys
  first_right [] ys zero p q = refl
  first_right [] ys (suc n) p q = absurd (omega (arith, p))
  first_right (x ∷ xs) [] n p q = absurd (omega (arith, p, q))
  first_right (x ∷ xs) (y ∷ ys) zero p q = absurd (omega (arith, p))
  first_right (x ∷ xs) (y ∷ ys) (suc n) p q = grind (arith, first_right xs ys n)

  second_left : (xs ys : List ℕ) (n : ℕ) → length xs ≡ n → length ys ≡ n → zip2 f ys (replicate n k)
      ≡ zip2 (λ a b. f b k) xs ys
  second_left [] [] n p q = refl
  second_left [] (y ∷ ys) n p q = absurd (omega (arith, p, q))
  second_left (x ∷ xs) [] n p q = absurd (omega (arith, p, q))
  second_left (x ∷ xs) (y ∷ ys) zero p q = absurd (omega (arith, p))
  second_left (x ∷ xs) (y ∷ ys) (suc n) p q = grind (arith, second_left xs ys n)

  second_right : (xs ys : List ℕ) (n : ℕ) → length xs ≡ n → length ys ≡ n → zip2 f (replicate n k) ys
      ≡ zip2 (λ a b. f k b) xs ys
  second_right [] [] zero p q = refl
  second_right [] [] (suc n) p q = absurd (omega (arith, p))
  second_right [] (y ∷ ys) n p q = absurd (omega (arith, p, q))
  second_right (x ∷ xs) [] n p q = absurd (omega (arith, p, q))
  second_right (x ∷ xs) (y ∷ ys) zero p q = absurd (omega (arith, p))
  second_right (x ∷ xs) (y ∷ ys) (suc n) p q = grind (arith, second_right xs ys n)

module _ {xs ys : List ℕ} (p : length xs ≡ 16) (q : length ys ≡ 16) (k : ℕ) where
  pub first_is : Marks xs ys (λ a b. eqb a k) (zip2 (λ a b. ones (eqb a b)) xs (replicate 16 k))
  first_is = record { lanes = first_left (λ a b. ones (eqb a b)) k xs ys 16 p q }

  pub first_at_most : Marks xs ys (λ a b. leb a k) (zip2 (λ a b. ones (leb a b)) xs (replicate 16 k))
  first_at_most = record { lanes = first_left (λ a b. ones (leb a b)) k xs ys 16 p q }

  pub first_at_least : Marks xs ys (λ a b. leb k a) (zip2 (λ a b. ones (leb a b)) (replicate 16 k) xs)
  first_at_least = record { lanes = first_right (λ a b. ones (leb a b)) k xs ys 16 p q }

  pub second_isnt : Marks xs ys (λ a b. not (eqb b k)) (zip2 (λ a b. ones (not (eqb a b))) ys (replicate 16 k))
  second_isnt = record { lanes = second_left (λ a b. ones (not (eqb a b))) k xs ys 16 p q }

  pub second_at_most : Marks xs ys (λ a b. leb b k) (zip2 (λ a b. ones (leb a b)) ys (replicate 16 k))
  second_at_most = record { lanes = second_left (λ a b. ones (leb a b)) k xs ys 16 p q }

  pub second_at_least : Marks xs ys (λ a b. leb k b) (zip2 (λ a b. ones (leb a b)) (replicate 16 k) ys)
  second_at_least = record { lanes = second_right (λ a b. ones (leb a b)) k xs ys 16 p q }

-- ---- the bits of the lanes

pub marks_mask : (xs ys : List ℕ) (t : ℕ → ℕ → Bool) (z : List ℕ) → length xs ≡ 16 → length ys ≡ 16 → Marks xs ys t z
    → mask_l (map (top 7) z) % 2 ^ 64 ≡ mask_l (zip2 t xs ys)
marks_mask xs ys t z p q h =
    ap (λ l. mask_l l % 2 ^ 64) (ap (map (top 7)) h.lanes ∙ each (top 7) (λ a b. ones (t a b)) xs ys
    ∙ (λ i. zip2 (λ a b. top_ones (t a b) i) xs ys))
    ∙ mask_l-mod (zip2 t xs ys) 64 (omega (arith, p, length-zip2 t xs ys (p ∙ sym q)))

-- a test that no lane passes is of no matter
pub none_pass : (c f t : ℕ → ℕ → Bool) (xs ys : List ℕ) → mask_l (zip2 f xs ys) ≡ 0
    → mask_l (zip2 c xs ys) ≡ mask_l (zip2 (λ a b. c a b || f a b && t a b) xs ys)
none_pass c f t [] ys h = refl
none_pass c f t (x ∷ xs) [] h = refl
none_pass c f t (x ∷ xs) (y ∷ ys) h = grind (arith, none_pass c f t xs ys)

-- the lanes before the first whose bit is set
pub first_bit : (ms : List Bool) (m r : ℕ) → length ms ≡ 16 → m ≡ mask_l ms
    → r ≡ cond (eqb m 0) 16 (count_trailing_zeros 64 m) → r ≡ prefix_len not ms
first_bit ms m r long same is =
    cc (is, same, map-id ms, first_set_mask_l (λ b. b) ms 16 long (omega arith))

-- ---- two loads of bytes

module _ (bytes : List ℕ) (at : ℕ) (room : at + 17 ≤ length bytes) where
  abbrev pub stops_at : List Bool
  stops_at = zip2 is_stop (chunk at 16 bytes) (chunk (at + 1) 16 bytes)

  here : length (chunk at 16 bytes) ≡ 16
  here = length-chunk at 16 bytes (omega (arith, room))

  after : length (chunk (at + 1) 16 bytes) ≡ 16
  after = length-chunk (at + 1) 16 bytes (omega (arith, room))

  pub length-stops_at : length stops_at ≡ 16
  length-stops_at = grind (arith, length-zip2, here, after)

  module _ (r : ℕ) (run : r ≡ prefix_len not stops_at) where
    pub run_within : r ≤ 16
    run_within = omega (arith, run, length-stops_at, prefix_len-le-length not stops_at)

    pub run_passed : (k : ℕ) → k < r → is_stop_at bytes (at + k) ≡ false
    run_passed k below =
        let short : k < 16 = omega (arith, below, run_within) in
        let next : at + 1 + k ≡ at + k + 1 = omega arith in
        (λ i. is_stop (sym (get_or-chunk at 16 bytes k 0 short) i)
        (sym (get_or-chunk (at + 1) 16 bytes k 0 short ∙ ap (λ j. get_or bytes j 0) next) i))
        ∙ sym (get_or-zip2 is_stop (chunk at 16 bytes) (chunk (at + 1) 16 bytes) k 0 0 false
        (omega (arith, short, here)) (omega (arith, short, after)))
        ∙ not-true _ (prefix_len_passes not stops_at k false (omega (arith, run, below)))

-- the bytes passed before, and those of one more load
pub stops_on : (bytes : List ℕ) (at r : ℕ) → ((k : ℕ) → k < r → is_stop_at bytes (at + k) ≡ false)
    → ((k : ℕ) → k < at → is_stop_at bytes k ≡ false) → (k : ℕ) → k < at + r → is_stop_at bytes k ≡ false
stops_on bytes at r run passed k below =
    elim (cases_lt k at) [
      | inl early ↦ passed k early
      | inr late ↦
          let back : at + (k - at) ≡ k = omega (arith, late) in
          subst (λ j. is_stop_at bytes j ≡ false) back (run (k - at) (omega (arith, below, late)))
    ]

-- the same of a load that begins within the bytes passed before
pub stops_again : (bytes : List ℕ) (len last r : ℕ) → last ≤ len
    → ((k : ℕ) → k < r → is_stop_at bytes (last + k) ≡ false)
    → ((k : ℕ) → k < len → is_stop_at bytes k ≡ false) → (k : ℕ) → k < last + r → is_stop_at bytes k ≡ false
stops_again bytes len last r within run passed =
    stops_on bytes last r run (λ k below. passed k (omega (arith, within, below)))

-- The gap and the word after it, found in the mask of one load.
use lib.Count.{count_trailing_zeros}
use lib.Lanes.{chunk, mask_l}
use Rattle.mail_words.proofs.Imports.{◌≡◌, ℕ, zero, suc, ◌+◌, ◌*◌, ◌%◌, ◌^◌, ◌<◌, ◌≤◌, cond, Bool, true, false, not, List, [], ◌∷◌, length, drop, get_or, nat_lt, ◌||◌, eqb, eqb-true, refl, sym, ap, ◌∙◌, subst, arith, nat_tests, length-chunk, HasGapAndWord, is_ascii_other, is_beyond_ascii, is_no_ascii_word, prefix_len}
use Rattle.std.proofs.Common.{◌/◌, map, div-one}
use Rattle.std.proofs.lemmas.Bool.{not-true, not-false}
use Rattle.std.proofs.lemmas.List.{drop-map, get_or-drop, get_or-take, length-drop}
use Rattle.std.proofs.lemmas.List.Sums.{prefix_len-le-length, prefix_len_passes, prefix_len_stops}
use Rattle.std.proofs.lemmas.Nat.{shr-shr}
use Rattle.std.proofs.lemmas.Simd.{mask_l-lt, none_from_empty_mask, trailing_mask_l}

-- ---- the bits of a mask

halved : (b : Bool) (n : ℕ) → (cond b 1 0 + 2 * n) / 2 ≡ n
halved b n = grind arith

-- a shift drops the first bits
drop_mask : (ms : List Bool) (i : ℕ) → mask_l ms / 2 ^ i ≡ mask_l (drop i ms)
drop_mask ms zero = div-one (mask_l ms)
drop_mask [] (suc i) = omega arith
drop_mask (m ∷ ms) (suc i) = cc (next, shr-shr (mask_l (m ∷ ms)) 1 i, halved m (mask_l ms), drop_mask ms i)
  where
    next : suc i ≡ 1 + i
    next = omega arith

module _ (test : ℕ → Bool) where
  -- if one is added to a mask, its lowest set bit comes right after the bits that were set at the front
  ones_mask : (k : ℕ) (xs : List ℕ) → length xs < k → count_trailing_zeros k (mask_l (map test xs) + 1)
      ≡ prefix_len test xs
  unfolding count_trailing_zeros
  ones_mask zero xs few = absurd (omega arith)
  ones_mask (suc k) [] few = refl
  ones_mask (suc k) (x ∷ xs) few = grind (arith, ones_mask k xs)

  -- the place of a set bit is within the mask
  bit_within : (xs : List ℕ) → 0 < mask_l (map test xs) → prefix_len (λ x. not (test x)) xs < length xs
  bit_within [] some = absurd (omega arith)
  bit_within (x ∷ xs) some = grind (arith, bit_within xs)

-- ---- the bytes of the mask

other_byte : (b : ℕ) → b < 128 → is_no_ascii_word b ≡ true → is_ascii_other b ≡ true
other_byte b ascii other = grind (arith, nat_tests)

module _ (bytes : List ℕ) (mask : ℕ) (room : 16 ≤ length bytes)
    (same : mask ≡ mask_l (map is_no_ascii_word (chunk 0 16 bytes))) where
  pub mask_bound : mask < 2 ^ 16
  mask_bound =
      let bits = map is_no_ascii_word (chunk 0 16 bytes) in
      let long : length bits ≡ 16 = grind arith in
      grind (arith, mask_l-lt)

  gap_is : count_trailing_zeros 64 (mask + 1) ≡ prefix_len is_no_ascii_word (chunk 0 16 bytes)
  gap_is = grind (arith, ones_mask)

  pub gap_bound : count_trailing_zeros 64 (mask + 1) < 64
  gap_bound = omega (
    arith,
    gap_is,
    prefix_len-le-length is_no_ascii_word (chunk 0 16 bytes),
    length-chunk 0 16 bytes room,
  )

-- if the mask of the bytes beyond ASCII is clear up to a place, the bytes up to there are ASCII
ascii_to : (bytes : List ℕ) (mask place : ℕ) → 16 ≤ length bytes → place < 16 → mask
    ≡ mask_l (map is_beyond_ascii (chunk 0 16 bytes))
    → (eqb mask 0 || nat_lt place (count_trailing_zeros 64 mask)) ≡ true → (k : ℕ) → k ≤ place → get_or bytes k 0 < 128
ascii_to bytes mask place room within same clear k below = go (eqb mask 0) refl
  where
    load : List ℕ
    load = chunk 0 16 bytes

    long : length load ≡ 16
    long = length-chunk 0 16 bytes room

    small : is_beyond_ascii (get_or bytes k 0) ≡ false → get_or bytes k 0 < 128
    small test = grind (arith, nat_tests)

    go : (t : Bool) → eqb mask 0 ≡ t → get_or bytes k 0 < 128
    go true none = small (none_from_empty_mask is_beyond_ascii bytes 0 16 0 room (sym same ∙ eqb-true mask 0 none) k
        (omega arith) (omega arith))
    go false some =
        let bits : 0 < mask_l (map is_beyond_ascii load) = grind arith in
        let first = ap (count_trailing_zeros 64) same
        ∙ trailing_mask_l is_beyond_ascii 64 load (omega (arith, long)) bits in
        let after : place < count_trailing_zeros 64 mask = grind (arith, nat_tests) in
        small (rw (get_or-take 16 bytes k 0 (omega arith)) at
        (not-true _ (prefix_len_passes (λ b. not (is_beyond_ascii b)) load k 0 (omega arith))))

-- the mask of a load in which a word of ASCII begins and ends before the last bit
module _ (bytes : List ℕ) (mask : ℕ) (room : 16 ≤ length bytes)
    (same : mask ≡ mask_l (map is_no_ascii_word (chunk 0 16 bytes)))
    (bits : 0 < mask / 2 ^ count_trailing_zeros 64 (mask + 1)) where
  abbrev load : List ℕ
  load = chunk 0 16 bytes

  long : length load ≡ 16
  long = length-chunk 0 16 bytes room

  abbrev pub gap : ℕ
  gap = count_trailing_zeros 64 (mask + 1)

  abbrev rest : List ℕ
  rest = drop gap load

  rest_is : mask / 2 ^ gap ≡ mask_l (map is_no_ascii_word rest)
  rest_is = grind (arith, drop_mask, drop-map)

  some_bit : 0 < mask_l (map is_no_ascii_word rest)
  some_bit = subst (λ m. 0 < m) rest_is bits

  abbrev pub word : ℕ
  word = count_trailing_zeros 64 (mask / 2 ^ gap)

  word_is : word ≡ prefix_len (λ b. not (is_no_ascii_word b)) rest
  word_is = grind (arith, rest_is, trailing_mask_l, length-drop)

  from_front : gap ≡ prefix_len is_no_ascii_word load
  from_front = gap_is bytes mask room same

  within : gap + word < 16
  within = omega (arith, word_is, bit_within is_no_ascii_word rest some_bit, length-drop gap load, long)

  lane : (k : ℕ) → k < 16 → get_or load k 0 ≡ get_or bytes k 0
  lane k below = get_or-take 16 bytes k 0 below

  rest_lane : (k : ℕ) → gap + k < 16 → get_or rest k 0 ≡ get_or bytes (gap + k) 0
  rest_lane k below = grind (arith, get_or-drop, lane)

  in_gap : (k : ℕ) → k < gap → is_no_ascii_word (get_or bytes k 0) ≡ true
  in_gap k below = rw (lane k (omega (arith, within))) at
      (prefix_len_passes is_no_ascii_word load k 0 (omega (arith, from_front)))

  in_word : (k : ℕ) → k < word → is_no_ascii_word (get_or bytes (gap + k) 0) ≡ false
  in_word k below =
      rw (rest_lane k (omega (arith, within))) at
      (not-true _ (prefix_len_passes (λ b. not (is_no_ascii_word b)) rest k 0 (omega (arith, word_is))))

  end : is_no_ascii_word (get_or bytes (gap + word) 0) ≡ true
  end =
      rw (ap (λ k. get_or rest k 0) (sym word_is) ∙ rest_lane word within) at
      (not-false _ (prefix_len_stops (λ b. not (is_no_ascii_word b)) rest 0
      (bit_within is_no_ascii_word rest some_bit)))

  after_gap : is_no_ascii_word (get_or bytes gap 0) ≡ false
  after_gap =
      rw (ap (λ k. get_or load k 0) (sym from_front) ∙ lane gap (omega (arith, within))) at
      (prefix_len_stops is_no_ascii_word load 0 (omega (arith, from_front, within, long)))

  some : 0 < word
  some =
      grind (arith, end, after_gap)

  shown_places : ((k : ℕ) → k ≤ gap + word → get_or bytes k 0 < 128) → HasGapAndWord bytes gap word
  shown_places ascii =
      grind (arith, within, some, in_gap, other_byte, in_word, end)

  pub shown_clear : (beyond : ℕ) → beyond ≡ mask_l (map is_beyond_ascii (chunk 0 16 bytes))
      → (eqb beyond 0 || nat_lt (gap + word) (count_trailing_zeros 64 beyond)) ≡ true → HasGapAndWord bytes gap word
  shown_clear beyond same_beyond clear = shown_places (ascii_to bytes beyond (gap + word) room within same_beyond clear)

-- A bit that is set in a word is one more mark of the window, because every place has its own bit.
use Rattle.mail_answer.proofs.Words.{◌≡◌, ◌∙◌, ◌+◌, ◌*◌, ◌/◌, ◌%◌, ◌-◌, ◌^◌, ◌<◌, ◌≤◌, ℕ, Bool, true, false, ◌||◌, List, length, set, get_or, replicate, nat_eq, sym, ap, arith, inl, inr, cases_lt, get_or-set_other, get_or-set_same, get_or_past, get_or-replicate, length-set, length-replicate, length-map-range_with_len, or-false, or_right, truth_at, Adds, Some, marks_in}
use Rattle.mail_answer.specs.Inside.CursorMarks.{IsFirstPlace}
use Rattle.std.specs.Prelude.{bit_and, bit_or}
use Rattle.std.specs.Int.{bit_at, trailing_zeros, w64}
use Rattle.std.proofs.lemmas.Nat.{and_le_l}
use Rattle.std.proofs.lemmas.Bool.{cases_eq}
use Rattle.std.proofs.lemmas.Nat.Bits.{bit_at-zero, bit_at_and, bit_at_set_same, bit_at_set_other, ones_shl, bit_at_mask_below, bit_at_mask_inside, bit_at-lt, bit_at-trailing_zeros}
use Rattle.mail_answer.proofs.CursorLaws.TruthReads.{each-at, each-past}

-- the bit of a place
abbrev pub bit_of : List ℕ → ℕ → ℕ
bit_of words k = bit_at (get_or words (k / 64) 0) (k % 64)

pub marks-long : (words : List ℕ) → length (marks_in words) ≡ 64 * length words
marks-long words = length-map-range_with_len _ 0 _

pub marks-at : (words : List ℕ) (k : ℕ) → truth_at (marks_in words) k ≡ nat_eq (bit_of words k) 1
marks-at = grind (arith, each-at, each-past, get_or_past, bit_at-zero)

-- no bit is set
pub unmarked-in : (count k : ℕ) → truth_at (marks_in (replicate count 0)) k ≡ false
unmarked-in count k =
    marks-at _ k ∙ ap (λ b. nat_eq b 1) (
    ap (λ w. bit_at w (k % 64)) (blank _) ∙ bit_at-zero _
    )
  where
    none : ℕ
    none = 0

    blank : (i : ℕ) → get_or (replicate count none) i 0 ≡ none
    blank i = elim (cases_lt i count) [
      | inl lt ↦ get_or-replicate count i none 0 lt
      | inr past ↦ get_or_past _ i 0 (omega (arith, past, length-replicate count none))
    ]

pub blank-long : (count : ℕ) → length (marks_in (replicate count 0)) ≡ 64 * count
blank-long count =
    let none : ℕ = 0 in
    marks-long _ ∙ ap (λ n. 64 * n) (length-replicate count none)

module _ (words : List ℕ) (place : ℕ) (lt : place / 64 < length words) where
  abbrev pub word : ℕ
  word = get_or words (place / 64) 0

  abbrev pub with_bit : ℕ
  with_bit = bit_or word (1 * 2 ^ (place % 64) % 2 ^ 64)

  abbrev pub words_after : List ℕ
  words_after = set words (place / 64) with_bit

  changed : get_or words_after (place / 64) 0 ≡ with_bit
  changed = get_or-set_same words (place / 64) with_bit 0 lt

  set_here : bit_of words_after place ≡ 1
  set_here = ap (λ (w : ℕ). bit_at w (place % 64)) changed ∙ bit_at_set_same w64 word (place % 64) (omega arith)

  set_other : (k : ℕ) → (k ≡ place → ⊥) → bit_of words_after k ≡ bit_of words k
  set_other k other = elim (cases_eq (k / 64) (place / 64)) [
    | inl same ↦ ap (λ (i : ℕ). bit_at (get_or words_after i 0) (k % 64)) same
        ∙ ap (λ (w : ℕ). bit_at w (k % 64)) changed
        ∙ bit_at_set_other w64 word (place % 64) (omega arith) (k % 64) (λ e. other (omega (arith, same, e)))
        ∙ ap (λ (i : ℕ). bit_at (get_or words i 0) (k % 64)) (sym same)
    | inr apart ↦ ap (λ (w : ℕ). bit_at w (k % 64)) (get_or-set_other words (place / 64) (k / 64) with_bit 0 apart)
  ]

  bit_after : (k : ℕ) → nat_eq (bit_of words_after k) 1 ≡ (nat_eq (bit_of words k) 1 || nat_eq place k)
  bit_after = grind (arith, set_here, or_right, set_other, or-false)

  pub marks_place : Adds (nat_eq place) (marks_in words) (marks_in words_after)
  marks_place = record {
    long = marks-long words_after ∙ ap (λ (n : ℕ). 64 * n) (length-set words (place / 64) with_bit)
        ∙ sym (marks-long words);
    each = λ k less. marks-at words_after k ∙ bit_after k
        ∙ sym (ap (λ (b : Bool). b || nat_eq place k) (marks-at words k));
  }

-- ---- the first mark from a place on

-- words before this one have no mark from the place on, and the bits of the one in hand are its marks from there on
pub record IsInHand (words : List ℕ) (place number word : ℕ) : Type 0 where
  pub within : number < length words
  pub from : place < 64 * (number + 1)
  pub fits : word < 2 ^ 64
  pub passed : (k : ℕ) → place ≤ k → k < 64 * number → truth_at (marks_in words) k ≡ false
  pub marked : (j : ℕ) → j < 64 → bit_at word j ≡ 1
      → (place ≤ 64 * number + j) × (truth_at (marks_in words) (64 * number + j) ≡ true)
  pub others : (j : ℕ) → j < 64 → place ≤ 64 * number + j → bit_at word j ≡ 0
      → truth_at (marks_in words) (64 * number + j) ≡ false

module _ (words : List ℕ) (place : ℕ) where
  marks-in-word : (number j : ℕ) → j < 64 → truth_at (marks_in words) (64 * number + j)
      ≡ nat_eq (bit_at (get_or words number 0) j) 1
  marks-in-word = grind (arith, marks-at)

  pub none_past : length words ≤ place / 64 → (k : ℕ) → place ≤ k → truth_at (marks_in words) k ≡ false
  none_past = grind (arith, get_or_past, marks-long)

  abbrev pub whole : ℕ
  whole = get_or words (place / 64) 0

  -- the bits from the place on
  abbrev pub mask : ℕ
  mask = (2 ^ 64 - 1) * 2 ^ (place % 64) % 2 ^ 64

  low : (j : ℕ) → j < place % 64 → bit_at mask j ≡ 0
  low j below = ap (λ m. bit_at m j) (ones_shl 64 (place % 64) (omega arith))
      ∙ bit_at_mask_below _ 64 j below

  high : (j : ℕ) → place % 64 ≤ j → j < 64 → bit_at mask j ≡ 1
  high j from less = ap (λ m. bit_at m j) (ones_shl 64 (place % 64) (omega arith))
      ∙ bit_at_mask_inside _ _ j from less

  dropped : (j : ℕ) → j < place % 64 → bit_at (bit_and whole mask) j ≡ 0
  dropped j below = omega (arith, bit_at_and whole mask j, low j below)

  kept : (j : ℕ) → place % 64 ≤ j → j < 64 → bit_at whole j ≡ bit_at (bit_and whole mask) j
  kept j from less = omega (arith, bit_at_and whole mask j, high j from less, bit_at-lt whole j)

  pub begins : place / 64 < length words → ((i : ℕ) → get_or words i 0 < 2 ^ 64)
      → IsInHand words place (place / 64) (bit_and whole mask)
  begins lt fit = record {
    within = lt;
    from = omega arith;
    fits = omega (arith, fit (place / 64), and_le_l whole mask);
    passed = grind arith;
    marked = grind (arith, dropped, marks-in-word, kept);
    others = grind (arith, marks-in-word, kept);
  }

  module _ (number word : ℕ) (hand : IsInHand words place number word) where
    -- the word has no bits
    passed_on : word ≡ 0 → (k : ℕ) → place ≤ k → k < 64 * (number + 1) → truth_at (marks_in words) k ≡ false
    passed_on none k le less = elim (cases_lt k (64 * number)) [
      | inl before ↦ grind arith
      | inr here ↦
          let is : 64 * number + (k - 64 * number) ≡ k = omega (arith, here) in
          grind (arith, bit_at-zero)
    ]

    pub none_left : word ≡ 0 → length words ≤ number + 1 → (k : ℕ) → place ≤ k → truth_at (marks_in words) k ≡ false
    none_left = grind (arith, passed_on, get_or_past, marks-long)

    pub goes_on : word ≡ 0 → number + 1 < length words → ((i : ℕ) → get_or words i 0 < 2 ^ 64)
        → IsInHand words place (number + 1) (get_or words (number + 1) 0)
    goes_on none lt fit = record {
      within = lt;
      from = omega (arith, hand.from);
      fits = fit (number + 1);
      passed = passed_on none;
      marked = grind (arith, marks-in-word);
      others = grind (arith, marks-in-word);
    }

    module _ (some : 0 < word) where
      pub in_word : trailing_zeros w64 word < 64
      in_word = (bit_at-trailing_zeros w64 _ some hand.fits).0

      is_set : bit_at word (trailing_zeros w64 word) ≡ 1
      is_set = (bit_at-trailing_zeros w64 _ some hand.fits).1

      unset_before : (j : ℕ) → j < trailing_zeros w64 word → bit_at word j ≡ 0
      unset_before = (bit_at-trailing_zeros w64 _ some hand.fits).2

      pub found : IsFirstPlace place (marks_in words) (Some (64 * number + trailing_zeros w64 word))
      found = (
        (hand.marked (trailing_zeros w64 word) in_word is_set).0,
        (hand.marked (trailing_zeros w64 word) in_word is_set).1,
        λ k le less. elim (cases_lt k (64 * number)) [
          | inl before ↦ grind arith
          | inr here ↦
              let is : 64 * number + (k - 64 * number) ≡ k = omega (arith, here) in
              grind (arith, in_word, unset_before)
        ],
      )

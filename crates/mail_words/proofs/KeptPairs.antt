-- If no byte at the front of a text is a stop, folding keeps its characters: their first two bytes show it.
use lib.Seq.{drop-append-add}
use Rattle.mail_words.proofs.Imports.{◌≡◌, ℕ, zero, suc, ◌+◌, ◌-◌, ◌%◌, ◌<◌, ◌≤◌, Bool, true, false, ◌&&◌, ◌||◌, nat_le, nat_lt, List, [], ◌∷◌, ◌++◌, length, drop, get_or, encode_utf8, encode_utf8_all, len_utf8, IsUtf8, inl, inr, refl, sym, ap, ◌∙◌, subst, arith, cases_lt, nat_tests, length-append, length-encode, encode_ascii, encodes-chars, IsUtf8-past_char, get_or-append-add}
use Rattle.std.proofs.Common.{◌/◌, chars}
use Rattle.std.specs.Prelude.{nat_eq}
use Rattle.ucd_case.specs.CaseFolding.{full_folding}
use Rattle.ucd_case.proofs.CaseFoldingLemmas.{full_folding_stepped}
use Rattle.unicode.proofs.Facts.{Stepped-below}
use Rattle.unicode.proofs.StepsLemmas.{skip, step_value-here, step_value-skip}
use Rattle.unicode.specs.Steps.{step_value}
use Rattle.unicode.proofs.TableComputing.{tables}
use Rattle.mail_words.specs.Inside.Folds.{keeps_itself, is_stop, is_stop_at, is_capital_or_first}
use Rattle.mail_words.proofs.CharBytes.{two, three, four}
use Rattle.mail_words.proofs.FoldingLemmas.{kept_byte}
use Rattle.mail_words.proofs.FrontReads.{FrontRead, front_read-start, front_read-pass}
use Rattle.mail_words.proofs.KeptRuns.{front_read-chain}

-- ---- characters, by computation

two_bytes : (c : ℕ) → c < 2048
    → (nat_lt c 128 || is_stop (192 + c / 64) (128 + c % 64) || nat_eq (length (full_folding c)) 0) ≡ true
unfolding tables full_folding_stepped
two_bytes c below = Stepped-below full_folding full_folding_stepped
    (λ n v. nat_lt n 128 || is_stop (192 + n / 64) (128 + n % 64) || nat_eq (length v) 0) 2048 refl c below

-- the first of these steps goes to the end, and has no folding
abbrev keeps_to : {V : Type 0} → ℕ → List (ℕ × List V) → Bool
keeps_to end [] = false
keeps_to end (s ∷ ss) = nat_le end s.0 && nat_eq (length s.1) 0

keeps_by_step : {V : Type 0} (d : List V) (ss : List (ℕ × List V)) (end c : ℕ) → keeps_to end ss ≡ true → c < end
    → nat_eq (length (step_value d ss c)) 0 ≡ true
keeps_by_step d ss end c h h2 = grind (arith, step_value-here)

-- folding changes no character from U+0800 to U+0FFF
three_bytes : (c : ℕ) → 2048 ≤ c → c < 4096 → keeps_itself c ≡ true
unfolding tables full_folding_stepped skip
three_bytes c from below =
    let s = full_folding_stepped in
    cc (
      s.gives c,
      step_value-skip s.default s.steps 2048 c from,
      keeps_by_step s.default (skip s.steps 2048) 4096 c refl below,
    )

-- the first two bytes of a character, and what folding does with it
kept_start : (c : ℕ) (rest : List ℕ) → is_stop_at (encode_utf8 c ++ rest) 0 ≡ false → keeps_itself c ≡ true
kept_start c rest h =
    elim (cases_lt c 128) [
      | inl ascii ↦
          let stop : is_stop c (get_or rest 0 0) ≡ false = subst (λ bs. is_stop_at (bs ++ rest) 0 ≡ false)
          (encode_ascii c ascii) h in
          grind (arith, stop, kept_byte c ascii, nat_tests)
      | inr beyond ↦ elim (cases_lt c 2048) [
        | inl low ↦
            let stop : is_stop (192 + c / 64) (128 + c % 64) ≡ false =
            subst (λ bs. is_stop_at (bs ++ rest) 0 ≡ false) (two c beyond low) h in
            grind (arith, stop, two_bytes c low, beyond, nat_tests)
        | inr higher ↦ elim (cases_lt c 65536) [
          | inl within ↦
              let stop : is_stop (224 + c / 4096) (128 + c / 64 % 64) ≡ false =
              subst (λ bs. is_stop_at (bs ++ rest) 0 ≡ false) (three c higher within) h in
              elim (cases_lt c 4096) [
                | inl small ↦ three_bytes c higher small
                | inr large ↦ absurd (grind (arith, stop, large, nat_tests))
              ]
          | inr far ↦
              let stop : is_stop (240 + c / 262144) (128 + c / 4096 % 64) ≡ false =
              subst (λ bs. is_stop_at (bs ++ rest) 0 ≡ false) (four c far) h in
              absurd (grind (arith, stop, nat_tests))
        ]
      ]
    ]

-- ---- the bytes of a character after its first one

goes_on : (m : ℕ) → is_capital_or_first (128 + m % 64) ≡ false
goes_on m = grind (arith, nat_tests)

-- each byte goes on a character
abbrev GoOn : List ℕ → Type 0
GoOn [] = Unit {0}
GoOn (y ∷ ys) = (is_capital_or_first y ≡ false) × GoOn ys

goes_on_at : (ys rest : List ℕ) (k : ℕ) → GoOn ys → k < length ys
    → is_capital_or_first (get_or (ys ++ rest) k 0) ≡ false
goes_on_at [] rest k h below = absurd (omega (arith, below))
goes_on_at (y ∷ ys) rest zero h below = h.0
goes_on_at (y ∷ ys) rest (suc k) h below = goes_on_at ys rest k h.1 (omega (arith, below))

inside : (c : ℕ) (rest : List ℕ) (k : ℕ) → 0 < k → k < length (encode_utf8 c)
    → is_capital_or_first (get_or (encode_utf8 c ++ rest) k 0) ≡ false
inside c rest k some below =
    grind (arith, encode_ascii, two, goes_on, three, four)

-- ---- character by character

past : (c : ℕ) (rest : List ℕ) (k : ℕ) → get_or (encode_utf8 c ++ rest) (len_utf8 c + k) 0 ≡ get_or rest k 0
past c rest k = grind (arith, length-encode, get_or-append-add)

drop_past : (c : ℕ) (rest : List ℕ) (k : ℕ) → drop (len_utf8 c + k) (encode_utf8 c ++ rest) ≡ drop k rest
drop_past c rest k = cc (length-encode c, drop-append-add (encode_utf8 c) rest k)

stop_past : (c : ℕ) (rest : List ℕ) (k : ℕ) → is_stop_at (encode_utf8 c ++ rest) (len_utf8 c + k) ≡ is_stop_at rest k
stop_past c rest k =
    let next : len_utf8 c + k + 1 ≡ len_utf8 c + (k + 1) = omega arith in
    grind (arith, past)

kept_walk : (cs : List ℕ) (n : ℕ) → IsUtf8 (encode_utf8_all cs) → n ≤ length (encode_utf8_all cs)
    → ((k : ℕ) → k < n → is_stop_at (encode_utf8_all cs) k ≡ false)
    → (n < length (encode_utf8_all cs) → is_capital_or_first (get_or (encode_utf8_all cs) n 0) ≡ true)
    → FrontRead keeps_itself (encode_utf8_all cs) n (drop n (encode_utf8_all cs))
kept_walk cs zero utf8 within passed end = front_read-start keeps_itself _ _ utf8 refl
kept_walk [] (suc n) utf8 within passed end = absurd (omega arith)
kept_walk (c ∷ cs) (suc n) utf8 within passed end =
    elim (cases_lt (suc n) (len_utf8 c)) [
      | inl cut ↦
          let long = length-append (encode_utf8 c) rest in
          let stop = end (omega (arith, cut, length-encode c)) in
          let on = inside c rest (suc n) (omega arith) (omega (arith, cut, length-encode c)) in
          cc
      | inr whole ↦
          let m : ℕ = suc n - len_utf8 c in
          let place : len_utf8 c + m ≡ suc n = omega arith in
          let long = length-append (encode_utf8 c) rest in
          let first = front_read-pass keeps_itself text 0 text c rest
          (front_read-start keeps_itself text text utf8 refl)
          refl (kept_start c rest (passed 0 (omega arith))) in
          let others = kept_walk cs m (IsUtf8-past_char text rest c utf8 refl)
          (omega arith)
          (λ k below. sym (stop_past c rest k) ∙ passed (len_utf8 c + k) (omega arith))
          (λ some. ap is_capital_or_first (sym (ap (λ j. get_or text j 0) (sym place) ∙ past c rest m))
          ∙ end (omega arith)) in
          let all : FrontRead keeps_itself text (0 + len_utf8 c + m) (drop m rest) =
          front_read-chain keeps_itself text rest (drop m rest) (0 + len_utf8 c) m first others in
          let whole_place : 0 + len_utf8 c + m ≡ suc n = omega arith in
          subst (λ j. FrontRead keeps_itself text j (drop (suc n) text)) whole_place
          (subst (FrontRead keeps_itself text (0 + len_utf8 c + m))
          (sym (cc (place, drop_past c rest m))) all)
    ]
  where
    rest : List ℕ
    rest = encode_utf8_all cs

    text : List ℕ
    text = encode_utf8 c ++ rest

-- the same of a text, in which the bytes stop at the end or at the first byte of a character
pub kept_quick : (text bytes after : List ℕ) (n : ℕ) → IsUtf8 text → bytes ≡ text → n ≤ length bytes
    → ((k : ℕ) → k < n → is_stop_at bytes k ≡ false)
    → (n < length bytes → is_capital_or_first (get_or bytes n 0) ≡ true) → after ≡ drop n text
    → FrontRead keeps_itself text n after
kept_quick text bytes after n utf8 same within passed end is =
    rw is (subst (λ bs. n ≤ length bs → ((k : ℕ) → k < n → is_stop_at bs k ≡ false)
    → (n < length bs → is_capital_or_first (get_or bs n 0) ≡ true) → FrontRead keeps_itself text n (drop n text))
    (sym same) (subst (λ bs. IsUtf8 bs → n ≤ length bs → ((k : ℕ) → k < n → is_stop_at bs k ≡ false)
    → (n < length bs → is_capital_or_first (get_or bs n 0) ≡ true) → FrontRead keeps_itself bs n (drop n bs))
    (encodes-chars text utf8) (kept_walk (chars text) n) utf8) within passed end)

-- Bytes without a zero, of which none is a third of a difference, are differences of one or two bytes, whose sum is
-- that of the bytes' weights, and postings go on after them.
use lib.Lanes.{Each1, Each2, sum_l, zip2}
use Rattle.mail_index.proofs.Words.{◌≡◌, ◌↔◌, ◌∙◌, ◌⊎◌, ℕ, zero, suc, ◌+◌, ◌-◌, ◌*◌, ◌/◌, ◌%◌, ◌^◌, ◌<◌, ◌≤◌, nat_lt, if◌then◌else◌, List, [], ◌∷◌, ◌++◌, length, take, drop, get_or, flat_map, refl, sym, ap, subst, inl, inr, arith, nat_tests, append_assoc, drop-cons, take-append-drop, get_or-take, length-take-le, AllByRecursion, leb128, ArePosted, IsShort}
use Rattle.std.proofs.lemmas.Bool.{cases_lt}
use Rattle.std.proofs.lemmas.Simd.{Each1-get_or}
use Rattle.mail_index.specs.Inside.ShortDifferences.{AreShort, HasPassed, IsShortPair, weight, sum_in_load}
use Rattle.mail_index.proofs.FileLaws.LebLemmas.{leb-two}
use Rattle.mail_index.proofs.ViewLaws.PostingReadLemmas.{posted-front, posted-back}

-- ---- bytes, of which the last may begin a difference

-- the last byte, or the one before all if there is none
abbrev pub last_of : ℕ → List ℕ → ℕ
last_of before [] = before
last_of before (b ∷ bs) = last_of b bs

-- the byte, if it begins a difference that goes on
abbrev pub begun : ℕ → List ℕ
begun b = if nat_lt b 128 then [] else b ∷ []

-- the bytes are these differences, and a byte that begins one may follow
pub record Split (before : ℕ) (bytes : List ℕ) : Type 0 where
  pub differences : List ℕ
  pub each : AllByRecursion (λ d. (0 < d) × (d < 2 ^ 14)) differences
  pub total : sum_l (zip2 weight (before ∷ bytes) bytes) ≡ sum_l differences + (last_of before bytes - 128)
  pub spelled : bytes ≡ flat_map (leb128 5) differences ++ begun (last_of before bytes)

light : (p b : ℕ) → p < 128 → weight p b ≡ b % 128
light p b h = grind (arith, nat_tests)

heavy : (p b : ℕ) → 128 ≤ p → weight p b ≡ 128 * (b % 128)
heavy p b h = grind (arith, nat_tests)

begun-none : (b : ℕ) → b < 128 → begun b ≡ []
begun-none b h = grind (arith, nat_tests)

begun-one : (b : ℕ) → 128 ≤ b → begun b ≡ b ∷ []
begun-one b h = grind (arith, nat_tests)

leb-one : (b : ℕ) → b < 128 → leb128 5 b ≡ b ∷ []
leb-one b h = grind (arith, nat_tests)

split-nil : (p : ℕ) → p < 128 → Split p []
split-nil p h = grind (arith, begun-none)

split-begun : (p b : ℕ) → p < 128 → 128 ≤ b → b < 256 → Split p (b ∷ [])
split-begun p b h high small = grind (arith, light, begun-one)

split-one : (p b : ℕ) (bs : List ℕ) → p < 128 → 0 < b → b < 128 → Split b bs → Split p (b ∷ bs)
split-one p b _ h some low s = record {
  differences = b ∷ s.differences;
  each = ((some, omega arith), s.each);
  total = omega (arith, light);
  spelled = rw (leb-one b low) (ap (λ l. b ∷ l) s.spelled);
}

split-two : (p b c : ℕ) (bs : List ℕ) → p < 128 → 128 ≤ b → b < 256 → 0 < c → c < 128 → Split c bs
    → Split p (b ∷ c ∷ bs)
split-two p b c _ h high small some low s =
    let bytes = leb-two (b - 128) c (omega arith) some low ∙ ap (λ (n : ℕ). n ∷ c ∷ []) (omega arith) in
    record {
      differences = ((b - 128) + 128 * c) ∷ s.differences;
      each = ((omega arith, omega arith), s.each);
      total = omega (arith, light, heavy);
      spelled = rw bytes (ap (λ (l : List ℕ). b ∷ c ∷ l) s.spelled);
    }

second : (b c : ℕ) → 128 ≤ b → IsShortPair b c → c < 128
second b c high (some, inl low) = absurd (omega arith)
second b c _ (some, inr low) = low

pub split : (p : ℕ) (bs : List ℕ) → p < 128 → Each1 (λ b. b < 256) bs → Each2 IsShortPair (p ∷ bs) bs → Split p bs
split p [] h f m = split-nil p h
split p (b ∷ []) h f m = grind (arith, split-one, split-nil, split-begun)
split p (b ∷ c ∷ bs) h f m = elim (cases_lt b 128) [
  | inl low ↦ split-one p b _ h m.0.0 low (split b (c ∷ bs) low f.1 m.1)
  | inr high ↦
      let low = second b c high m.1.0 in
      split-two p b c _ h high f.0 m.1.0.0 low (split c bs low f.1.1 m.1.1)
]

-- ---- a load

pub last_of-get : (p n : ℕ) (bs : List ℕ) → length bs ≡ suc n → last_of p bs ≡ get_or bs n 0
last_of-get p n [] h = absurd (omega arith)
last_of-get p zero (b ∷ []) h = refl
last_of-get p (suc n) (b ∷ []) h = absurd (omega arith)
last_of-get p zero (b ∷ c ∷ bs) h = absurd (omega arith)
last_of-get p (suc n) (b ∷ c ∷ bs) h = last_of-get b n (c ∷ bs) (omega arith)

module _ (bytes : List ℕ) (long : 16 ≤ length bytes) (fits : Each1 (λ b. b < 256) (take 16 bytes))
    (short : AreShort (take 16 bytes)) where
  abbrev last : ℕ
  last = get_or bytes 15 0

  load : Split 0 (take 16 bytes)
  load = split 0 (take 16 bytes) (omega arith) fits short

  last-is : last_of 0 (take 16 bytes) ≡ last
  last-is = last_of-get 0 15 (take 16 bytes) (length-take-le 16 bytes long) ∙ get_or-take 16 bytes 15 0 (omega arith)

  last-small : last < 256
  last-small = subst (λ (b : ℕ). b < 256) (get_or-take 16 bytes 15 0 (omega arith))
      (Each1-get_or (λ b. b < 256) (take 16 bytes) 15 0 (omega (arith, length-take-le 16 bytes long)) fits)

  pub load_enough : last - 128 ≤ sum_in_load (take 16 bytes)
  load_enough = omega (arith, load.total, last-is)

  rest-is : begun last ++ drop 16 bytes ≡ drop (16 - last / 128) bytes
  rest-is =
      elim (cases_lt last 128) [
        | inl low ↦
            let all : 16 ≡ 16 - last / 128 = omega (arith, low) in
            rw (begun-none last low) (ap (λ (k : ℕ). drop k bytes) all)
        | inr high ↦
            let most : 15 ≡ 16 - last / 128 = omega (arith, high, last-small) in
            rw (begun-one last high) (sym (drop-cons bytes 15 0 (omega (arith, long)))
            ∙ ap (λ (k : ℕ). drop k bytes) most)
      ]

  pub load_passed : (n : ℕ) (rest : List ℕ) → n ≡ sum_in_load (take 16 bytes) - (last - 128)
      → rest ≡ drop (16 - last / 128) bytes → HasPassed bytes n rest
  load_passed n rest is back = record {
    differences = load.differences;
    each = load.each;
    total = omega (arith, is, load.total, last-is);
    spelled = sym (take-append-drop 16 bytes)
        ∙ ap (λ (l : List ℕ). l ++ drop 16 bytes) (load.spelled
        ∙ ap (λ (b : ℕ). flat_map (leb128 5) load.differences ++ begun b) last-is)
        ∙ append_assoc (flat_map (leb128 5) load.differences) (begun last) (drop 16 bytes)
        ∙ ap (λ (l : List ℕ). flat_map (leb128 5) load.differences ++ l) (rest-is ∙ sym back);
  }

-- ---- postings that begin with such differences

short-is : (d : ℕ) → d < 2 ^ 14 → IsShort 5 d
short-is d h = omega arith

module _ (limit : ℕ) (le : limit ≤ 2 ^ 32) where
  posted-forward : (low : ℕ) (ds rest : List ℕ) → AllByRecursion (λ d. (0 < d) × (d < 2 ^ 14)) ds
      → ArePosted limit low (flat_map (leb128 5) ds ++ rest) → ArePosted limit (low + sum_l ds) rest
  posted-forward low [] rest each h =
      let same : low ≡ low + 0 = omega arith in
      subst (λ (k : ℕ). ArePosted limit k rest) same h
  posted-forward low (d ∷ ds) rest each h =
      let f = posted-front limit low d _ (flat_map (leb128 5) ds ++ rest) h.0 le (short-is d each.0.1)
      (append_assoc (leb128 5 d) (flat_map (leb128 5) ds) rest) h.1 in
      let same : low + d + sum_l ds ≡ low + (d + sum_l ds) = omega arith in
      subst (λ (k : ℕ). ArePosted limit k rest) same
      (posted-forward (low + d) ds rest each.1 (f.later, f.posted))

  posted-backward : (low : ℕ) (ds rest : List ℕ) → AllByRecursion (λ d. (0 < d) × (d < 2 ^ 14)) ds
      → low + sum_l ds ≤ limit → ArePosted limit (low + sum_l ds) rest
      → ArePosted limit low (flat_map (leb128 5) ds ++ rest)
  posted-backward low [] rest each within h =
      let same : low + 0 ≡ low = omega arith in
      subst (λ (k : ℕ). ArePosted limit k rest) same h
  posted-backward low (d ∷ ds) rest each within h =
      let same : low + (d + sum_l ds) ≡ low + d + sum_l ds = omega arith in
      posted-back limit low d _ (flat_map (leb128 5) ds ++ rest) each.0.0 (omega (arith, within))
      (append_assoc (leb128 5 d) (flat_map (leb128 5) ds) rest)
      (posted-backward (low + d) ds rest each.1 (omega (arith, within))
      (subst (λ (k : ℕ). ArePosted limit k rest) same h))

  pub posted-passed : (low n : ℕ) (bytes rest : List ℕ) → HasPassed bytes n rest → low + n ≤ limit
      → ArePosted limit low bytes ↔ ArePosted limit (low + n) rest
  posted-passed low n bytes rest p within =
      let same : low + sum_l p.differences ≡ low + n = omega (arith, p.total) in (
        λ h. subst (λ (k : ℕ). ArePosted limit k rest) same (posted-forward low p.differences rest p.each
            (subst (ArePosted limit low) p.spelled h)),
        λ h. subst (ArePosted limit low) (sym p.spelled) (posted-backward low p.differences rest p.each
            (omega (arith, within, same)) (subst (λ (k : ℕ). ArePosted limit k rest) (sym same) h)),
      )

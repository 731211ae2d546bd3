-- The numbers of one list that are in a window are marked one after another, because they rise.
use Rattle.mail_answer.proofs.Words.{◌≡◌, ◌∙◌, ◌+◌, ◌-◌, ◌<◌, ◌≤◌, ℕ, Bool, false, ◌||◌, List, [], ◌∷◌, ◌++◌, length, append_assoc, nat_eq, Option, Some, None, refl, sym, ap, ap₂, subst, arith, AllByRecursion, IfNone, RisesFrom, is_number_among, truth_at, Adds, numbers_ahead, MatchOption, CountsSteps, add_steps, ne_eqb, or-false, or_assoc}
use Rattle.mail_answer.specs.Inside.CursorLists.{AreDroppedBelow}
use Rattle.mail_answer.proofs.CursorLaws.Lists.{all_joined, not_below, rises_lower}

-- how many numbers are left
abbrev pub count_left : Option ℕ → List ℕ → ℕ
count_left first after = length (numbers_ahead first after)

-- Of the numbers, some were dropped. All these are before the window's end, and those in the window are marked.
pub record AreMarked (start : ℕ) (numbers : List ℕ) (marks : List Bool) (first : Option ℕ) (after : List ℕ)
    (now : List Bool) : Type 0 where
  pub dropped : List ℕ
  pub split : numbers ≡ dropped ++ numbers_ahead first after
  pub rises : RisesFrom start (numbers_ahead first after)
  pub within : AllByRecursion (λ m. m < start + length marks) dropped
  pub long : length now ≡ length marks
  pub each : (k : ℕ) → k < length marks → truth_at now k ≡ (truth_at marks k || is_number_among (start + k) dropped)

among_none : (m n : ℕ) (ns : List ℕ) → AllByRecursion (λ k. k < n) ns → n ≤ m → is_number_among m ns ≡ false
among_none m n [] below le = refl
among_none m n (k ∷ ks) below le = grind (arith, ne_eqb, among_none m n ks below.1 le)

among_joined : (m : ℕ) (xs ys : List ℕ) → is_number_among m (xs ++ ys) ≡ (is_number_among m xs || is_number_among m ys)
among_joined m [] ys = refl
among_joined m (x ∷ xs) ys = grind (arith, or_assoc, among_joined m xs ys)

all_below : (m n : ℕ) (ns : List ℕ) → m ≤ n → AllByRecursion (λ k. k < m) ns → AllByRecursion (λ k. k < n) ns
all_below m n [] le below = tt
all_below m n (k ∷ ks) le below = (omega (arith, le, below.0), all_below m n ks le below.1)

-- ---- the first number is looked for

pub begun : (start : ℕ) (numbers : List ℕ) (marks : List Bool) (first : Option ℕ) (after : List ℕ)
    → AreDroppedBelow start numbers (numbers_ahead first after) → AreMarked start numbers marks first after marks
begun start numbers marks first after cut = record {
  dropped = cut.dropped;
  split = cut.split;
  rises = cut.rises;
  within = grind (arith, all_below);
  long = refl;
  each = grind (arith, among_none, or-false);
}

-- ---- one more is marked

module _ (start : ℕ) (numbers : List ℕ) (marks : List Bool) (number : ℕ) (after : List ℕ) (now : List Bool)
    (are : AreMarked start numbers marks (Some number) after now) where
  pub not_before : start ≤ number
  not_before = are.rises.0

  alone : (k : ℕ) → nat_eq (number - start) k ≡ is_number_among (start + k) (number ∷ [])
  alone = grind (arith, not_before)

  module _ (now' : List Bool) (first : Option ℕ) (rest : List ℕ) (within : number - start < length now)
      (adds : Adds (nat_eq (number - start)) now now') (is : after ≡ numbers_ahead first rest) where
    pub marked_more : AreMarked start numbers marks first rest now'
    marked_more = record {
      dropped = are.dropped ++ number ∷ [];
      split = are.split ∙ ap (λ ns. are.dropped ++ number ∷ ns) is
          ∙ sym (append_assoc are.dropped (number ∷ []) (numbers_ahead first rest));
      rises = subst (RisesFrom start) is (rises_lower _ _ _ (omega (arith, not_before)) are.rises.1);
      within = all_joined _ _ _ are.within
          (grind (arith, not_before));
      long = adds.long ∙ are.long;
      each = λ k lt. adds.each k (omega (arith, lt, are.long))
          ∙ ap₂ (λ a b. a || b) (are.each k lt) (alone k)
          ∙ or_assoc (truth_at marks k) _
          _
          ∙ ap (λ b. truth_at marks k || b)
          (sym (among_joined (start + k) _ _));
    }

-- ---- all others are past the window

module _ (start : ℕ) (numbers : List ℕ) (marks : List Bool) (first : Option ℕ) (after : List ℕ) (now : List Bool)
    (are : AreMarked start numbers marks first after now)
    (past : RisesFrom (start + length marks) (numbers_ahead first after)) where
  among_dropped : (k : ℕ) → k < length marks → is_number_among (start + k) numbers
      ≡ is_number_among (start + k) are.dropped
  among_dropped = grind (arith, among_joined, not_below, or-false)

  pub marked_all : Adds (λ k. is_number_among (start + k) numbers) marks now
  marked_all = record {
    long = are.long;
    each = grind (arith, among_dropped);
  }

-- ---- what a list gives next

pub gives_next : (old new : List ℕ) (first : Option ℕ) (steps steps1 : ℕ)
    → MatchOption first ((old ≡ []) × (new ≡ []) × (steps1 ≡ steps))
    (λ n. (old ≡ n ∷ new) × (steps1 ≡ add_steps steps 1))
    → (old ≡ numbers_ahead first new) × IfNone first (new ≡ []) × CountsSteps (length old) (length new) steps steps1
gives_next old new None = grind arith
gives_next old new (Some n) = grind arith

-- a place past the window marks nothing
pub marked_past : (start : ℕ) (numbers : List ℕ) (marks : List Bool) (first : Option ℕ) (after : List ℕ)
    (now now' : List Bool) (place : ℕ) → AreMarked start numbers marks first after now → Adds (nat_eq place) now now'
    → length now ≤ place → AreMarked start numbers marks first after now'
marked_past start numbers marks first after now now' place are adds past = record {
  dropped = are.dropped;
  split = are.split;
  rises = are.rises;
  within = are.within;
  long = adds.long ∙ are.long;
  each = grind (arith, or-false);
}

pub past_window : (start : ℕ) (numbers : List ℕ) (marks : List Bool) (first : Option ℕ) (after : List ℕ)
    (now : List Bool) → AreMarked start numbers marks first after now → (number : ℕ) → first ≡ Some number
    → length now ≤ number - start → RisesFrom (start + length marks) (numbers_ahead first after)
past_window start numbers marks None after now are number is past = absurd cc
past_window start numbers marks (Some n) after now are number is past = grind arith

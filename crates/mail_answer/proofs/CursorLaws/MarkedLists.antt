-- The marks of a window and the rest of the lists have the same messages as the lists had, list by list.
use Rattle.mail_answer.proofs.Words.{◌≡◌, ◌∙◌, ◌+◌, ◌-◌, ◌<◌, ◌≤◌, ℕ, zero, suc, Bool, true, false, ◌||◌, max, List, [], ◌∷◌, ◌++◌, length, take, replicate, get_or, Option, Some, None, Result, IfOk, refl, sym, ap, subst, arith, inl, inr, list_any, sum_by, swap_remove, set, length-set, length-replicate, get_or-set_same, get_or-replicate, get_or_past, get_or_append_left, get_or-append-add, take-set, take-take, take_more_set, cases_lt, both_ways, or_left, or_from, lt-leb, or_assoc, or_comm, add_steps, truth_at, Adds, WalkAhead, CountsSteps, Drops, IsFirst, steps_left_in, union_of, lesser_of, AreFew, HaveMarks, IsFirstMark, marked_or_listed, those_from, truths_marked, some_has, marks_in}
use Rattle.std.proofs.lemmas.List.{take_all}
use Rattle.std.proofs.lemmas.List.Sorted.{IsPermutation-swap_remove, list_any-IsPermutation}
use Rattle.std.proofs.lemmas.List.Sums.{sum_by-swap_remove, sum_by-cons}
use Rattle.std.proofs.lemmas.Bool.{le-leb}
use Rattle.mail_answer.specs.declared.cursor.head.Head.{Head}
use Rattle.mail_answer.specs.declared.cursor.head.Head.TheVariants.{Unasked, Asked}
use Rattle.mail_answer.proofs.CursorLaws.Groups.{swap_last}
use Rattle.mail_answer.proofs.CursorLaws.Members.{Firsts, some-append, united-at, left-set, firsts_same, firsts_lesser}
use Rattle.mail_answer.proofs.CursorLaws.TruthReads.{each-at, each-past, one_or_other-at}
use Rattle.mail_answer.proofs.CursorLaws.WindowMarks.{blank-long, unmarked-in}

-- ---- truths

or_with_false : (a b : Bool) → b ≡ false → (a || b) ≡ a
or_with_false true b lacks = refl
or_with_false false b lacks = lacks

-- what isn't true is false
lacks : (b : Bool) → (b ≡ true → ⊥) → b ≡ false
lacks = grind arith

-- ---- one of many lists changes, or is taken out

some-set_same : (m : ℕ) (ws : List WalkAhead) (i : ℕ) (w v : WalkAhead) → i < length ws → w ≡ get_or ws i w
    → truth_at v.truths m ≡ truth_at w.truths m → some_has m (set ws i v) ≡ some_has m ws
some-set_same m [] i w v lt is same = refl
some-set_same m (x ∷ ws) zero w v lt is same = grind arith
some-set_same m (x ∷ ws) (suc i) w v lt is same = grind (arith, some-set_same m ws i w v (omega (arith, lt)) is same)

-- the list doesn't have the message any more
some-set_gone : (m : ℕ) (ws : List WalkAhead) (i : ℕ) (w v : WalkAhead) → i < length ws → w ≡ get_or ws i w
    → truth_at v.truths m ≡ false → (some_has m (set ws i v) || truth_at w.truths m) ≡ some_has m ws
some-set_gone m [] i w v lt is gone = absurd (omega (arith, lt))
some-set_gone m (x ∷ ws) zero w v lt is gone = grind (arith, or_comm)
some-set_gone m (x ∷ ws) (suc i) w v lt is gone =
    grind (arith, or_assoc, set, some-set_gone m ws i w v (omega (arith, lt)) is gone)

some-any : (m : ℕ) (ws : List WalkAhead) → some_has m ws ≡ list_any (λ (w : WalkAhead). truth_at w.truths m) ws
some-any m [] = refl
some-any m (w ∷ ws) = ap (λ b. truth_at w.truths m || b) (some-any m ws)

some-removed : (m : ℕ) (ws : List WalkAhead) (i : ℕ) (v : WalkAhead) → i < length ws → v ≡ get_or ws i v
    → truth_at v.truths m
    ≡ false → some_has m (swap_remove ws i v) ≡ some_has m ws
some-removed m ws i v lt is none =
    let test : WalkAhead → Bool = λ w. truth_at w.truths m in
    some-any m (swap_remove ws i v)
    ∙ ap (λ b. b || list_any test (swap_remove ws i v)) (sym none)
    ∙ sym (list_any-IsPermutation test _ _ (IsPermutation-swap_remove ws i v lt is))
    ∙ sym (some-any m ws)

left-sum : (ws : List WalkAhead) → steps_left_in ws ≡ sum_by (λ (w : WalkAhead). w.left) ws
left-sum [] = refl
left-sum (w ∷ ws) = omega (arith, left-sum ws, sum_by-cons (λ a. a.left) w ws)

left-removed : (ws : List WalkAhead) (i : ℕ) (v : WalkAhead) → i < length ws → v ≡ get_or ws i v → v.left ≡ 0
    → steps_left_in (swap_remove ws i v) ≡ steps_left_in ws
left-removed = grind (arith, left-sum, sum_by-swap_remove)

front-removed : (ws : List WalkAhead) (i : ℕ) (v : WalkAhead) → i < length ws → take i (swap_remove ws i v) ≡ take i ws
front-removed = grind (arith, take-take, set, take-set)

-- ---- steps

add_more : (steps a b : ℕ) → add_steps (add_steps steps a) b ≡ add_steps steps (a + b)
add_more = omega arith

pub counts_more : (left0 left left1 steps0 steps steps1 : ℕ) → CountsSteps left0 left steps0 steps
    → CountsSteps left left1 steps steps1 → CountsSteps left0 left1 steps0 steps1
counts_more = grind (arith, add_more)

pub turn_counts : (ws : List WalkAhead) (i left0 steps0 steps steps1 : ℕ) (w v : WalkAhead) → i < length ws → w
    ≡ get_or ws i w
    → CountsSteps left0 (steps_left_in ws) steps0 steps → CountsSteps w.left v.left steps steps1
    → CountsSteps left0 (steps_left_in (set ws i v)) steps0 steps1
turn_counts = grind (arith, counts_more, set, left-set)

-- ---- the messages of all lists

-- what dropping leaves was there before
kept : (n : ℕ) (xs ys : List Bool) → Drops n xs ys → (m : ℕ) → truth_at ys m ≡ true → truth_at xs m ≡ true
kept = grind (arith, cases_lt, both_ways)

-- messages of the lists in the window are marked or still come; those of the first lists up to its end are dropped
pub record HaveMarked (start : ℕ) (lists : List WalkAhead) (marks : List Bool) (place : ℕ) (now_lists : List WalkAhead)
    (now : List Bool) (least : Option ℕ) : Type 0 where
  pub long : length now ≡ length marks
  pub moved : (k : ℕ) → k < length marks → (truth_at now k || some_has (start + k) now_lists)
      ≡ (truth_at marks k || some_has (start + k) lists)
  pub after : (m : ℕ) → start + length marks ≤ m → some_has m now_lists ≡ some_has m lists
  pub gone : (m : ℕ) → m < start + length marks → some_has m (take place now_lists) ≡ false
  pub first : Firsts (λ m. some_has m (take place now_lists)) least
  pub few : AreFew now_lists

module _ (start : ℕ) (lists : List WalkAhead) (marks : List Bool) (place : ℕ) (ws : List WalkAhead) (now : List Bool)
    (least : Option ℕ) (have : HaveMarked start lists marks place ws now least) (w : WalkAhead) (lt : place < length ws)
    (is : w ≡ get_or ws place w) where
  module _ (v : WalkAhead) (now' : List Bool) (dropped : Drops (start + length now) w.truths v.truths)
      (adds : Adds (λ k. truth_at w.truths (start + k)) now now') where
    drops : Drops (start + length marks) w.truths v.truths
    drops = subst (λ n. Drops (start + n) w.truths v.truths) have.long dropped

    some_before : (m : ℕ) → m < start + length marks → (some_has m (set ws place v) || truth_at w.truths m)
        ≡ some_has m ws
    some_before m less = some-set_gone m _ _ w v lt is (drops.below m less)

    some_after : (m : ℕ) → start + length marks ≤ m → some_has m (set ws place v) ≡ some_has m ws
    some_after m le = some-set_same m _ _ w v lt is (drops.rest m le)

    -- for a list that stays, or for one that has come to its end
    after : (vs : List WalkAhead) (place' : ℕ) (least' : Option ℕ)
        → ((m : ℕ) → some_has m vs ≡ some_has m (set ws place v))
        → ((m : ℕ) → m < start + length marks → some_has m (take place' vs) ≡ false)
        → Firsts (λ m. some_has m (take place' vs)) least' → HaveMarked start lists marks place' vs now' least'
    after vs place' least' same gone first = record {
      long = grind arith;
      moved = grind (arith, swap_last, some_before);
      after = grind (arith, some_after);
      gone = gone;
      first = first;
      few = λ m here.
          let set_here = sym (same m) ∙ here in
          have.few m (elim (cases_lt m (start + length marks)) [
            | inl less ↦ sym (some_before m less) ∙ or_left _ _ set_here
            | inr le ↦ sym (some_after m le) ∙ set_here
          ]);
    }

    front : take (place + 1) (set ws place v) ≡ take place ws ++ v ∷ []
    front = take_more_set _ _ v lt

    front-at : (m : ℕ) → some_has m (take (place + 1) (set ws place v))
        ≡ (some_has m (take place ws) || truth_at v.truths m)
    front-at m = ap (some_has m) front ∙ some-append m (take place ws) v

    pub marked_on : (number least' : Option ℕ) → IsFirst v.truths number → least' ≡ lesser_of least number
        → HaveMarked start lists marks (place + 1) (set ws place v) now' least'
    marked_on number least' first is' =
        after (set ws place v) (place + 1) least' (λ m. refl)
        (λ m less. front-at m ∙ or_from (some_has m (take place ws)) (truth_at v.truths m) (have.gone m less)
        (drops.below m less))
        (rw is' (firsts_same (λ m. some_has m (take place ws) || truth_at v.truths m)
        (λ m. some_has m (take (place + 1) (set ws place v))) (lesser_of least number) front-at
        (firsts_lesser (λ m. some_has m (take place ws)) (truth_at v.truths) least number have.first first)))

    within : place < length (set ws place v)
    within = omega (arith, lt, length-set ws place v)

    front_kept : take place (swap_remove (set ws place v) place v) ≡ take place ws
    front_kept = front-removed _ _ v within ∙ take-set _ _ v

    marked_out : IsFirst v.truths None → HaveMarked start lists marks place (swap_remove (set ws place v) place v) now'
        least
    marked_out none =
        after _ place least
        (λ m. some-removed m _ _ v within (sym (get_or-set_same ws place v v lt)) (none m))
        (λ m less. ap (some_has m) front_kept ∙ have.gone m less)
        (firsts_same _
        _ _
        (λ m. ap (some_has m) front_kept) have.first)

    left_out : v.left ≡ 0 → steps_left_in (swap_remove (set ws place v) place v) ≡ steps_left_in (set ws place v)
    left_out none = left-removed _ _ v within (sym (get_or-set_same ws place v v lt)) none

    -- the list that is taken out is the one that has come to its end
    module _ (x : WalkAhead) (vs : List WalkAhead) (out : x ≡ get_or (set ws place v) place x)
        (removed : vs ≡ swap_remove (set ws place v) place x) where
      same_out : swap_remove (set ws place v) place v ≡ vs
      same_out = sym (removed ∙ ap (λ y. swap_remove (set ws place v) place y)
          (out ∙ get_or-set_same ws place v x lt))

      pub goes_out : IsFirst v.truths None → HaveMarked start lists marks place vs now' least
      goes_out = grind (arith, same_out, marked_out)

      pub goes_out_steps : v.left ≡ 0 → (left0 steps0 steps steps1 : ℕ)
          → CountsSteps left0 (steps_left_in ws) steps0 steps
          → CountsSteps w.left v.left steps steps1 → CountsSteps left0 (steps_left_in vs) steps0 steps1
      goes_out_steps none left0 steps0 steps steps1 earlier here =
          subst (λ n. CountsSteps left0 n steps0 steps1) (sym (left_out none) ∙ ap steps_left_in same_out)
          (turn_counts _ _ _ _ _ _ w v lt is earlier here)

module _ (start : ℕ) (lists : List WalkAhead) (marks : List Bool) (place : ℕ) (ws : List WalkAhead) (now : List Bool)
    (least : Option ℕ) (have : HaveMarked start lists marks place ws now least) (past : length ws ≤ place) where
  whole : (m : ℕ) → some_has m ws ≡ some_has m (take place ws)
  whole m = ap (some_has m) (sym (take_all place ws past))

  none_before : (m : ℕ) → m < start + length marks → some_has m ws ≡ false
  none_before m lt = whole m ∙ have.gone m lt

  pub all_drops : Drops (start + length marks) (union_of lists) (union_of ws)
  all_drops = grind (arith, united-at, none_before)

  pub all_first : IsFirst (union_of ws) least
  all_first = firsts_same _ _ _
      (λ m. united-at m ws ∙ whole m)
      have.first

  pub all_marks : Adds (λ k. truth_at (union_of lists) (start + k)) marks now
  all_marks = record {
    long = have.long;
    each = grind (arith, or_with_false, none_before, united-at);
  }

-- ---- marks in their window

padded-before : (start : ℕ) (marks : List Bool) (m : ℕ) → m < start → truth_at (replicate start false ++ marks) m
    ≡ false
padded-before = grind (arith, get_or_append_left, length-replicate, get_or-replicate)

padded-at : (start : ℕ) (marks : List Bool) (k : ℕ) → truth_at (replicate start false ++ marks) (start + k)
    ≡ truth_at marks k
padded-at = grind (arith, length-replicate, get_or-append-add)

padded-from : (start : ℕ) (marks : List Bool) (m : ℕ) → start ≤ m → truth_at (replicate start false ++ marks) m
    ≡ truth_at marks (m - start)
padded-from = grind (arith, padded-at)

both-at : (start : ℕ) (marks : List Bool) (lists : List WalkAhead) (m : ℕ)
    → truth_at (marked_or_listed start marks lists) m
    ≡ (truth_at (replicate start false ++ marks) m || some_has m lists)
both-at = grind (arith, one_or_other-at, united-at)

-- if the marks from a number on are false, the messages of the lists are left
unmarked-at : (start low : ℕ) (marks : List Bool) (lists : List WalkAhead)
    → ((k : ℕ) → low ≤ start + k → truth_at marks k ≡ false) → (m : ℕ) → low ≤ m
    → truth_at (marked_or_listed start marks lists) m ≡ truth_at (union_of lists) m
unmarked-at = grind (arith, both-at, cases_lt, padded-before, padded-from, united-at)

-- ---- a window begins anew

-- a window without messages
pub drops_at_once : (n : ℕ) (old new : List Bool) → Drops (n + 0) old new → Drops n old new
drops_at_once = grind (arith, Drops)

few_kept : (n : ℕ) (old new : List WalkAhead) → AreFew old → Drops n (union_of old) (union_of new) → AreFew new
few_kept n old new few drops = λ m here. few m
    (sym (united-at m old) ∙ kept n _ _ drops m (united-at m new ∙ here))

module _ (n start : ℕ) (words : List ℕ) (lists cut : List WalkAhead) (few : AreFew lists)
    (drops : Drops n (union_of lists) (union_of cut)) (clear : words ≡ replicate 512 0) where
  abbrev pub cleared : List Bool
  cleared = marks_in words

  unmarked : (k : ℕ) → truth_at cleared k ≡ false
  unmarked k = ap (λ ws. truth_at (marks_in ws) k) clear ∙ unmarked-in 512 k

  long : length cleared ≡ 32768
  long = ap (λ ws. length (marks_in ws)) clear ∙ blank-long 512

  pub few_cut : AreFew cut
  few_cut = few_kept n lists cut few drops

  same_as_cut : (m : ℕ) → truth_at (marked_or_listed start cleared cut) m ≡ truth_at (union_of cut) m
  same_as_cut m = unmarked-at start 0 _ cut (λ k le. unmarked k) m (omega arith)

  pub none_marks : (number : Option ℕ) → IsFirst (union_of cut) number → HaveMarks start cleared cut (Asked number)
  none_marks = grind (arith, long, few_cut, both_ways, unmarked)

  pub none_drops : Drops n (union_of lists) (marked_or_listed start cleared cut)
  none_drops = grind (arith, same_as_cut)

  pub none_first : (number : Option ℕ) → IsFirst (union_of cut) number
      → IsFirst (marked_or_listed start cleared cut) number
  none_first number none = firsts_same (truth_at (union_of cut)) (truth_at (marked_or_listed start cleared cut)) number
      same_as_cut none

  module _ (first : ℕ) (now : List Bool) (left : List WalkAhead) (is : IsFirst (union_of cut) (Some first))
      (taken : Drops (first + length cleared) (union_of cut) (union_of left))
      (adds : Adds (λ k. truth_at (union_of cut) (first + k)) cleared now) where
    marked-as : (k : ℕ) → k < length cleared → truth_at now k ≡ truth_at (union_of cut) (first + k)
    marked-as = grind (arith, unmarked)

    left-in : (m : ℕ) → m < first + length cleared → some_has m left ≡ false
    left-in m lt = sym (united-at m left) ∙ taken.below m lt

    same_as_moved : (m : ℕ) → truth_at (marked_or_listed first now left) m ≡ truth_at (union_of cut) m
    same_as_moved = grind (
      arith,
      both-at,
      cases_lt,
      padded-before,
      left-in,
      padded-from,
      or_with_false,
      marked-as,
      get_or_past,
      united-at,
    )

    inside_marks : (k : ℕ) → truth_at now k ≡ true → k < length cleared
    inside_marks = grind (arith, cases_lt, both_ways, get_or_past)

    pub begun_marks : (number : Option ℕ) → IsFirst (union_of left) number → HaveMarks first now left (Asked number)
    begun_marks = grind (arith, long, few_kept, few_cut, united-at, marked-as, inside_marks, left-in)

    pub begun_drops : Drops n (union_of lists) (marked_or_listed first now left)
    begun_drops = grind (arith, same_as_moved)

    pub begun_first : IsFirst (marked_or_listed first now left) (Some first)
    begun_first = firsts_same _ _ (Some first)
        same_as_moved is

-- ---- the messages from a number on

those-from : (low : ℕ) (xs : List Bool) (m : ℕ) → low ≤ m → truth_at (those_from low xs) m ≡ truth_at xs m
those-from = grind (arith, cases_lt, each-at, le-leb, each-past, get_or_past)

those-before : (low : ℕ) (xs : List Bool) (m : ℕ) → m < low → truth_at (those_from low xs) m ≡ false
those-before = grind (arith, cases_lt, each-at, lt-leb, each-past)

-- of these, the ones below n are dropped
drops_from : (n low low' : ℕ) (xs ys : List Bool) → low' ≡ max n low
    → ((m : ℕ) → low' ≤ m → truth_at ys m ≡ truth_at xs m) → Drops n (those_from low xs) (those_from low' ys)
drops_from = grind (arith, cases_lt, those-before, those-from)

module _ (n low low' start : ℕ) (marks : List Bool) (lists : List WalkAhead) (ahead : Head)
    (have : HaveMarks start marks lists ahead) (is : low' ≡ max n low) where
  pub found_drops : Drops n (truths_marked low start marks lists) (truths_marked low' start marks lists)
  found_drops = drops_from n _ _ _ _ is
      (λ m le. refl)

  pub found_first : (number : ℕ) → IsFirstMark start low' marks (Some number)
      → IsFirst (truths_marked low' start marks lists) (Some number)
  found_first = grind (
    arith,
    those-from,
    both-at,
    or_left,
    padded-at,
    cases_lt,
    those-before,
    or_from,
    padded-before,
    padded-from,
    lacks,
  )

  module _ (start' : ℕ) (now : List Bool) (left : List WalkAhead) (none : IsFirstMark start low' marks None)
      (drops : Drops low' (union_of lists) (marked_or_listed start' now left)) where
    pub windowed_drops : Drops n (truths_marked low start marks lists) (truths_marked low' start' now left)
    windowed_drops = grind (arith, drops_from, unmarked-at)

    pub windowed_first : (number : Option ℕ) → IsFirst (marked_or_listed start' now left) number
        → IsFirst (truths_marked low' start' now left) number
    windowed_first = grind (arith, firsts_same, cases_lt, those-before, those-from)

-- ---- a walk begins

pub begins_marked : (lists : List WalkAhead) (words : List ℕ) → words ≡ replicate 512 0 → (m : ℕ)
    → truth_at (truths_marked 0 0 (marks_in words) lists) m ≡ some_has m lists
begins_marked lists words clear m =
    those-from 0 _ m (omega arith)
    ∙ unmarked-at 0 0 _ lists
    (λ k le. ap (λ ws. truth_at (marks_in ws) k) clear ∙ unmarked-in 512 k) m (omega arith)
    ∙ united-at m lists

pub begins_window : (lists : List WalkAhead) (words : List ℕ) → words ≡ replicate 512 0 → AreFew lists
    → HaveMarks 0 (marks_in words) lists Unasked
begins_window lists words clear few =
    let unmarked : (k : ℕ) → truth_at (marks_in words) k ≡ false =
    λ k. ap (λ ws. truth_at (marks_in ws) k) clear ∙ unmarked-in 512 k in
    record {
      window = ap (λ ws. length (marks_in ws)) clear ∙ blank-long 512;
      listed = few;
      next = tt;
      marked = λ k here. absurd (both_ways (truth_at (marks_in words) k) (unmarked k) here);
      before = λ k m here there. absurd (both_ways (truth_at (marks_in words) k) (unmarked k) here);
    }

pub if_marked : {E : Type 0} (r : Result WalkAhead E) (xs : List Bool) (ws : List WalkAhead)
    → ((m : ℕ) → truth_at xs m ≡ some_has m ws) → IfOk r (λ w. w.truths ≡ xs)
    → IfOk r (λ w. (m : ℕ) → truth_at w.truths m ≡ some_has m ws)
if_marked = grind arith

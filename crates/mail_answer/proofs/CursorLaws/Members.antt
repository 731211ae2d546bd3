-- The members of a node go on one after another, and together they drop exactly what the node drops.
use Rattle.mail_answer.proofs.Words.{◌≡◌, ◌∙◌, ◌+◌, ◌<◌, ◌≤◌, ℕ, zero, suc, Bool, true, false, ◌&&◌, ◌||◌, List, [], ◌∷◌, ◌++◌, length, take, get_or, Option, Some, None, refl, sym, ap, arith, MatchOption, set, cases_lt, or_left, or_right, or_from, and_left, and_right, and_from, take_more, take_more_set, length-set, get_or-set_same, get_or-set_other, and-true, and_assoc, or-false, or_assoc, truth_at, WalkAhead, common, union_of, steps_left_in, postings_in, levels, CountsPostings, Drops, IsFirst, Reaches, Spends, lesser_of, some_has}
use Rattle.std.proofs.lemmas.List.{take_all}
use Rattle.mail_answer.proofs.CursorLaws.TruthReads.{both-at, one_or_other-at}
use Rattle.mail_answer.proofs.CursorLaws.Turns.{first_from}

-- ---- one member changes

pub left-set : (ws : List WalkAhead) (i : ℕ) (w v : WalkAhead) → i < length ws → w ≡ get_or ws i w
    → steps_left_in (set ws i v) + w.left ≡ steps_left_in ws + v.left
left-set [] i w v lt is = absurd (omega (arith, lt))
left-set (x ∷ ws) zero w v lt is = let same = ap (λ a. a.left) is in omega (arith, same)
left-set (x ∷ ws) (suc i) w v lt is = omega (arith, left-set ws i w v (omega (arith, lt)) is)

pub levels-set : (ws : List WalkAhead) (i : ℕ) (w v : WalkAhead) → i < length ws → w ≡ get_or ws i w → v.below ≡ w.below
    → levels (set ws i v) ≡ levels ws
levels-set [] i w v lt is same = refl
levels-set (x ∷ ws) zero w v lt is same = grind arith
levels-set (x ∷ ws) (suc i) w v lt is same = grind (arith, levels-set ws i w v (omega (arith, lt)) is same)

pub below-levels : (ws : List WalkAhead) (i : ℕ) (w : WalkAhead) → i < length ws → w ≡ get_or ws i w
    → w.below < levels ws
below-levels [] i w lt is = absurd (omega (arith, lt))
below-levels (x ∷ ws) zero w lt is = let here = ap (λ a. a.below) is
    in omega (arith, here)
below-levels (x ∷ ws) (suc i) w lt is = omega (arith, below-levels ws i w (omega (arith, lt)) is)

pub turn_steps : (ws : List WalkAhead) (i left0 steps0 steps steps1 : ℕ) (w v : WalkAhead) → i < length ws → w
    ≡ get_or ws i w
    → Spends left0 (steps_left_in ws) steps0 steps → Spends w.left v.left steps steps1
    → Spends left0 (steps_left_in (set ws i v)) steps0 steps1
turn_steps = grind (arith, left-set)

postings-set : (ws : List WalkAhead) (i : ℕ) (w v : WalkAhead) → i < length ws → w ≡ get_or ws i w
    → postings_in (set ws i v) + w.postings ≡ postings_in ws + v.postings
postings-set [] i w v lt is = absurd (omega (arith, lt))
postings-set (x ∷ ws) zero w v lt is = let same = ap (λ a. a.postings) is
    in omega (arith, same)
postings-set (x ∷ ws) (suc i) w v lt is = omega (arith, postings-set ws i w v (omega (arith, lt)) is)

pub none_counted : (postings steps : ℕ) → CountsPostings postings postings steps steps
none_counted postings steps = record { fewer = omega arith; counted = omega arith }

pub turn_postings : (ws : List WalkAhead) (i postings0 steps0 steps steps1 : ℕ) (w v : WalkAhead) → i < length ws → w
    ≡ get_or ws i w
    → CountsPostings postings0 (postings_in ws) steps0 steps → CountsPostings w.postings v.postings steps steps1
    → CountsPostings postings0 (postings_in (set ws i v)) steps0 steps1
turn_postings = grind (arith, set, postings-set)

-- ---- in each walk, and in at least one

unfoldable pub each_has : ℕ → List WalkAhead → Bool
each_has m [] = true
each_has m (w ∷ ws) = truth_at w.truths m && each_has m ws

pub united-at : (m : ℕ) (ws : List WalkAhead) → truth_at (union_of ws) m ≡ some_has m ws
united-at m [] = refl
united-at m (w ∷ ws) = grind (arith, one_or_other-at, united-at m ws)

pub common-at : (m : ℕ) (ws : List WalkAhead) → 0 < length ws → truth_at (common ws) m ≡ each_has m ws
unfolding each_has
common-at m [] some = absurd (omega (arith, some))
common-at m (w ∷ []) some = sym (and-true _)
common-at m (w ∷ v ∷ ws) some = grind (arith, both-at, common-at m (v ∷ ws) (omega arith))

pub some-append : (m : ℕ) (ws : List WalkAhead) (w : WalkAhead) → some_has m (ws ++ w ∷ [])
    ≡ (some_has m ws || truth_at w.truths m)
some-append m [] w = or-false _
some-append m (v ∷ ws) w = grind (arith, or_assoc, some-append m ws w)

each-append : (m : ℕ) (ws : List WalkAhead) (w : WalkAhead) → each_has m (ws ++ w ∷ [])
    ≡ (each_has m ws && truth_at w.truths m)
unfolding each_has
each-append m [] w = and-true _
each-append m (v ∷ ws) w = grind (arith, and_assoc, each-append m ws w)

front_lacks : (b front whole : Bool) → (front ≡ false → whole ≡ false) → (b && front) ≡ false → (b && whole) ≡ false
front_lacks = grind arith

-- if one walk doesn't have the message, not each has it
each-lacks : (m : ℕ) (ws : List WalkAhead) (i : ℕ) (w : WalkAhead) → i < length ws → w ≡ get_or ws i w
    → truth_at w.truths m
    ≡ false → each_has m ws ≡ false
unfolding each_has
each-lacks m [] i w lt is lacks = absurd (omega (arith, lt))
each-lacks m (x ∷ ws) zero w lt is lacks = grind (arith, and_left)
each-lacks m (x ∷ ws) (suc i) w lt is lacks = grind (arith, and_right, each-lacks m ws i w)

each-front : (m : ℕ) (ws : List WalkAhead) (i : ℕ) → each_has m (take i ws) ≡ false → each_has m ws ≡ false
unfolding each_has
each-front m [] zero lacks = lacks
each-front m [] (suc i) lacks = lacks
each-front m (x ∷ ws) zero lacks = absurd cc
each-front m (x ∷ ws) (suc i) lacks = front_lacks _ _ _
    (each-front m ws i) lacks

-- ---- at least one member

-- the first number that passes, if one passes
abbrev pub Firsts : (ℕ → Bool) → Option ℕ → Type 0
Firsts test number =
    MatchOption number ((m : ℕ) → test m ≡ false) (λ n. (test n ≡ true) × ((m : ℕ) → m < n → test m ≡ false))

pub firsts_same : (f g : ℕ → Bool) (r : Option ℕ) → ((m : ℕ) → g m ≡ f m) → Firsts f r → Firsts g r
firsts_same = grind arith

pub firsts_lesser : (f g : ℕ → Bool) (r s : Option ℕ) → Firsts f r → Firsts g s
    → Firsts (λ m. f m || g m) (lesser_of r s)
firsts_lesser = grind (arith, or_from, or_right, or_left, cases_lt)

-- members that dropped all numbers below n, and the first number that still comes in one of them
pub record HaveDropped (n : ℕ) (old new : List WalkAhead) (least : Option ℕ) : Type 0 where
  pub rest : (m : ℕ) → n ≤ m → some_has m new ≡ some_has m old
  pub below : (m : ℕ) → m < n → some_has m new ≡ false
  pub first : Firsts (λ m. some_has m new) least

dropped_one : (n : ℕ) (old new : List WalkAhead) (least : Option ℕ) (w v : WalkAhead) (number : Option ℕ)
    → HaveDropped n old new least → Drops n w.truths v.truths → IsFirst v.truths number
    → HaveDropped n (old ++ w ∷ []) (new ++ v ∷ []) (lesser_of least number)
dropped_one =
    grind (arith, some-append, or_from, firsts_same, firsts_lesser)

pub dropped_more : (n : ℕ) (old new : List WalkAhead) (i : ℕ) (least number result : Option ℕ) (w v : WalkAhead)
    → i < length old → length new ≡ length old → w ≡ get_or old i w
    → HaveDropped n (take i old) (take i new) least → Drops n w.truths v.truths → IsFirst v.truths number → result
    ≡ lesser_of least number
    → HaveDropped n (take (i + 1) old) (take (i + 1) (set new i v)) result
dropped_more n old new i least number result w v lt long is have drops first lesser =
    let within : i < length new = omega (arith, lt, long) in
    let fronts = take_more _ i w lt
    ∙ ap (λ x. take i old ++ x ∷ []) (sym is) in
    rw (fronts, take_more_set _ i v within, lesser)
    (dropped_one n _ _ _ w v _ have drops first)

pub dropped_drops : (n : ℕ) (old new : List WalkAhead) (least : Option ℕ) → HaveDropped n old new least
    → Drops n (union_of old) (union_of new)
dropped_drops = grind (arith, united-at)

pub dropped_first : (n : ℕ) (old new : List WalkAhead) (least : Option ℕ) → HaveDropped n old new least
    → IsFirst (union_of new) least
dropped_first n old new least have = firsts_same _ _ _
    (λ m. united-at m new) have.first

-- ---- each member

-- the members went on, each from the number that the one before it reached; no number below this one is in each of them
pub record HaveReached (n : ℕ) (old new : List WalkAhead) (number : ℕ) : Type 0 where
  pub from : n ≤ number
  pub rest : (m : ℕ) → number ≤ m → each_has m new ≡ each_has m old
  pub passed : (m : ℕ) → 0 < length new → m < number → each_has m new ≡ false
  pub lacking : (m : ℕ) → n ≤ m → m < number → each_has m old ≡ false
  pub reached : number ≡ n → each_has n new ≡ true

pub reached_none : (n : ℕ) → HaveReached n [] [] n
unfolding each_has
reached_none n = record {
  from = omega arith;
  rest = λ m le. refl;
  passed = grind arith;
  lacking = grind arith;
  reached = λ same. refl;
}

reached_one : (n : ℕ) (old new : List WalkAhead) (number least : ℕ) (w v : WalkAhead) → HaveReached n old new number
    → Drops number w.truths v.truths → IsFirst v.truths (Some least)
    → HaveReached n (old ++ w ∷ []) (new ++ v ∷ []) least
reached_one n old new number least w v have drops first =
    let up = first_from _ _ _ _ drops first in
    record {
      from = omega (arith, up, have.from);
      rest = grind (arith, each-append);
      passed = grind (arith, each-append, and_right);
      lacking = grind (arith, each-append, and_left, and_right);
      reached = grind (arith, each-append, and_from);
    }

pub reached_more : (n : ℕ) (old new : List WalkAhead) (i number least : ℕ) (w v : WalkAhead) → i < length old
    → length new
    ≡ length old → w ≡ get_or old i w
    → HaveReached n (take i old) (take i new) number → Drops number w.truths v.truths → IsFirst v.truths (Some least)
    → HaveReached n (take (i + 1) old) (take (i + 1) (set new i v)) least
reached_more n old new i number least w v lt long is have drops first =
    let within : i < length new = omega (arith, lt, long) in
    let fronts = take_more _ i w lt
    ∙ ap (λ x. take i old ++ x ∷ []) (sym is) in
    rw (fronts, take_more_set _ i v within)
    (reached_one n _ _ _ _ w v have drops first)

pub reached_drops : (n : ℕ) (old new : List WalkAhead) (number : ℕ) → 0 < length old → 0 < length new
    → HaveReached n old new number → Drops n (common old) (common new)
reached_drops = grind (arith, common-at)

pub reached_number : (n : ℕ) (old new : List WalkAhead) (number : ℕ) → 0 < length new → HaveReached n old new number
    → Reaches n (common new) (Some number)
reached_number = grind (arith, common-at)

-- a member without numbers ends them all
pub ended_none : (new : List WalkAhead) (i : ℕ) (v : WalkAhead) → i < length new → IsFirst v.truths None → (m : ℕ)
    → truth_at (common (set new i v)) m ≡ false
ended_none new i v lt none m =
    let long = length-set new i v in
    let within : i < length (set _ i v) = omega (arith, long, lt) in
    common-at m _ (omega (arith, within))
    ∙ each-lacks m _ i v within (sym (get_or-set_same new i v v lt)) (none m)

pub ended_drops : (n : ℕ) (old new : List WalkAhead) (i number : ℕ) (w v : WalkAhead) → i < length old → length new
    ≡ length old
    → w ≡ get_or old i w
    → HaveReached n (take i old) (take i new) number → Drops number w.truths v.truths → IsFirst v.truths None
    → Drops n (common old) (common (set new i v))
ended_drops = grind (arith, ended_none, common-at, each-front, each-lacks)

-- ---- round after round

-- no number from n up to this one was in the list, and from this one on it is unchanged
pub record HasRisen (n : ℕ) (old : List Bool) (number : ℕ) (xs : List Bool) : Type 0 where
  pub from : n ≤ number
  pub rest : (m : ℕ) → number ≤ m → truth_at xs m ≡ truth_at old m
  pub lacking : (m : ℕ) → n ≤ m → m < number → truth_at old m ≡ false

-- ---- the loop over members

-- the members from this place on are unchanged
abbrev pub Unvisited : List WalkAhead → List WalkAhead → ℕ → Type 0
Unvisited old new i = (length new ≡ length old) × ((k : ℕ) (d : WalkAhead) → i ≤ k → get_or new k d ≡ get_or old k d)

pub unvisited_more : (old new : List WalkAhead) (i : ℕ) (v : WalkAhead) → Unvisited old new i
    → Unvisited old (set new i v) (i + 1)
unvisited_more = grind (arith, length-set, get_or-set_other)

pub whole_dropped : (n : ℕ) (old new : List WalkAhead) (i : ℕ) (least : Option ℕ) → length new ≡ length old
    → length old ≤ i
    → HaveDropped n (take i old) (take i new) least → HaveDropped n old new least
whole_dropped = grind (arith, take_all)

pub whole_reached : (n : ℕ) (old new : List WalkAhead) (i number : ℕ) → length new ≡ length old → length old ≤ i
    → HaveReached n (take i old) (take i new) number → HaveReached n old new number
whole_reached = grind (arith, take_all)

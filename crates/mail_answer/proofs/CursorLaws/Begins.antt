-- The walk of a query gives exactly the messages that satisfy it, by the walks of its members.
use Rattle.mail_answer.proofs.Words.{◌≡◌, ◌+◌, ◌*◌, ◌^◌, ◌<◌, ◌≤◌, ℕ, Bool, false, not, ◌&&◌, List, [], ◌∷◌, ◌++◌, length, append_assoc, refl, ap, subst, arith, Result, Ok, Err, IfOk, Vec, Global, rules, eqb, Option, add-mul, cases_order, eqb-false, get_or_past, Table, Node, the_lemmas, Query, Date, Size, Not, All, Either, query_of, queries_of, members_of, is_true, each_is_true, some_is_true, facts_at, truths, chosen_numbers, truth_at, most_left, most_left_of_all, look_ups, look_ups_of_all, LooksUp, WalkAhead, common, union_of, others, steps_left_in, some_has, numbers_to_come}
use Rattle.std.proofs.lemmas.Bool.{le-leb}
use Rattle.std.proofs.lemmas.List.{append-nil}
use Rattle.mail_dates.specs.declared.range.Range.{Range}
use Rattle.mail_index.specs.declared.record.Record.{Record}
use Rattle.mail_query.specs.declared.node.Node as node
use Rattle.mail_answer.specs.declared.cursor.scanned.Asked.{Asked}
use Rattle.mail_answer.specs.declared.cursor.scanned.Asked.TheVariants.{Any, Flag}
use Rattle.mail_answer.specs.declared.cursor.scanned.Asked.TheVariants as asked_of
use Rattle.mail_answer.specs.Inside.CursorBegins.{AreTruthsOf, TellAll}
use Rattle.mail_answer.specs.Inside.CursorScans.{asked_query, satisfies}
use Rattle.mail_answer.specs.Marks.{each_number}
use Rattle.mail_answer.proofs.CursorLaws.Numbers.{filter_alike}
use Rattle.mail_answer.proofs.CursorLaws.MemberLemmas.{truths_at, truths_long}
use Rattle.mail_answer.proofs.CursorLaws.Members.{each_has, united-at, common-at}
use Rattle.mail_answer.proofs.CursorLaws.Turns.{others-from, others-past}
use Rattle.mail_answer.proofs.CursorLaws.Texts.{left-append}

pub query_of-Date : (range : Range) → query_of (node.Date range) ≡ Date range
query_of-Date = search (rules, the_lemmas)

pub query_of-Size : (low : ℕ) (high : Option ℕ) → query_of (node.Size low high) ≡ Size low high
query_of-Size = search (rules, the_lemmas)

pub query_of-All : (members : Vec Node Global) → query_of (node.All members)
    ≡ All (members_of (queries_of members.items))
query_of-All = search (rules, the_lemmas)

-- ---- leaves

pub tells_scan : (t : Table) (q asked : Query) (xs : List Bool) → q ≡ asked → xs ≡ truths t asked → AreTruthsOf t q xs
tells_scan = grind (arith, truths_at, get_or_past, truths_long)

pub tells_text : {E : Type 0} (t : Table) (q asked : Query) (r : Result WalkAhead E) → q ≡ asked
    → ((m : ℕ) → length t.messages ≤ m → is_true asked (facts_at t m) ≡ false)
    → IfOk r (λ w. (m : ℕ) → truth_at w.truths m ≡ is_true asked (facts_at t m))
    → IfOk r (λ w. AreTruthsOf t q w.truths)
tells_text = grind arith

-- ---- the cursor of a walk

pub tells_chosen : (t : Table) (q : Query) (count : ℕ) (xs : List Bool) → count ≡ length t.messages → AreTruthsOf t q xs
    → numbers_to_come 0 count xs ≡ chosen_numbers t q
tells_chosen = grind (arith, filter_alike, le-leb)

pub some_walk : (len long : ℕ) → len ≡ long → eqb len 0 ≡ false → 0 < long
some_walk = grind (arith, cases_order, eqb-false)

-- a condition on a record depends on nothing else in the table
asked_alike : (t : Table) (asked : Asked) (n : ℕ) → satisfies t.messages asked n
    ≡ is_true (asked_query asked) (facts_at t n)
asked_alike t Any n = refl
asked_alike t (asked_of.Date range) n = refl
asked_alike t (asked_of.Size low high) n = refl
asked_alike t (Flag flag wanted) n = refl

scanned_alike : (t : Table) (asked : Asked) → each_number (length t.messages) (satisfies t.messages asked)
    ≡ truths t (asked_query asked)
scanned_alike = grind (arith, asked_alike)

pub tells_scanned : {E : Type 0} (t : Table) (q p : Query) (records : List Record) (asked : Asked)
    (r : Result WalkAhead E)
    → q ≡ p → p ≡ asked_query asked → records ≡ t.messages
    → IfOk r (λ w. w.truths ≡ each_number (length records) (satisfies records asked))
    → IfOk r (λ w. AreTruthsOf t q w.truths)
tells_scanned t q p records asked (Err e) is asks all told = tt
tells_scanned t q p records asked (Ok w) is asks all told = grind (arith, tells_scan, scanned_alike)

pub left_scanned : {E : Type 0} (t : Table) (q p : Query) (records : List Record) (r : Result WalkAhead E) → q ≡ p
    → most_left t p ≡ length t.messages → records ≡ t.messages
    → IfOk r (λ w. w.left ≡ length records) → IfOk r (λ w. w.left ≤ most_left t q)
left_scanned t q p records (Err e) is most all left = tt
left_scanned t q p records (Ok w) is most all left = omega (arith, left, ap length all, most, ap (most_left t) is)

-- ---- inner nodes

tells_others : (t : Table) (q : Query) (count : ℕ) (inner xs : List Bool) → count ≡ length t.messages → xs
    ≡ others count 0 inner → AreTruthsOf t q inner → AreTruthsOf t (Not q) xs
tells_others = grind (arith, others-from, others-past)

pub tells_not : {E : Type 0} (t : Table) (q p : Query) (count : ℕ) (inner : List Bool) (r : Result WalkAhead E) → q
    ≡ Not p
    → count ≡ length t.messages → AreTruthsOf t p inner
    → IfOk r (λ w. w.truths ≡ others count 0 inner) → IfOk r (λ w. AreTruthsOf t q w.truths)
tells_not = grind (arith, tells_others)

some_told : (t : Table) (qs : List Query) (ws : List WalkAhead) (m : ℕ) → TellAll t qs ws → m < length t.messages
    → some_has m ws ≡ some_is_true (members_of qs) (facts_at t m)
some_told t [] [] m tells lt = refl
some_told t [] (w ∷ ws) m tells lt = absurd tells
some_told t (q ∷ qs) [] m tells lt = absurd tells
some_told t (q ∷ qs) (w ∷ ws) m tells lt = grind (arith, some_told t qs ws m tells.1 lt)

some_past : (t : Table) (qs : List Query) (ws : List WalkAhead) (m : ℕ) → TellAll t qs ws → length t.messages ≤ m
    → some_has m ws ≡ false
some_past t [] [] m tells le = refl
some_past t [] (w ∷ ws) m tells le = absurd tells
some_past t (q ∷ qs) [] m tells le = absurd tells
some_past t (q ∷ qs) (w ∷ ws) m tells le = grind (arith, some_past t qs ws m tells.1 le)

each_told : (t : Table) (qs : List Query) (ws : List WalkAhead) (m : ℕ) → TellAll t qs ws → m < length t.messages
    → each_has m ws ≡ each_is_true (members_of qs) (facts_at t m)
unfolding each_has
each_told t [] [] m tells lt = refl
each_told t [] (w ∷ ws) m tells lt = absurd tells
each_told t (q ∷ qs) [] m tells lt = absurd tells
each_told t (q ∷ qs) (w ∷ ws) m tells lt = grind (arith, each_told t qs ws m tells.1 lt)

each_past : (t : Table) (qs : List Query) (ws : List WalkAhead) (m : ℕ) → 0 < length ws → TellAll t qs ws
    → length t.messages ≤ m → each_has m ws ≡ false
unfolding each_has
each_past t [] [] m some tells le = absurd (omega (arith, some))
each_past t [] (w ∷ ws) m some tells le = absurd tells
each_past t (q ∷ qs) [] m some tells le = absurd tells
each_past t (q ∷ qs) (w ∷ ws) m some tells le = ap (λ b. b && each_has m ws) (tells.0.past m le)

tells_united : (t : Table) (qs : List Query) (ws : List WalkAhead) → TellAll t qs ws
    → AreTruthsOf t (Either (members_of qs)) (union_of ws)
tells_united = grind (arith, united-at, some_told, some_past)

pub tells_either : (t : Table) (q : Query) (qs : List Query) (ws : List WalkAhead) (xs : List Bool) → q
    ≡ Either (members_of qs) → xs ≡ union_of ws → TellAll t qs ws → AreTruthsOf t q xs
tells_either = grind (arith, tells_united)

-- the same if the walks are joined in groups
pub tells_grouped : {E : Type 0} (t : Table) (q : Query) (qs : List Query) (ws : List WalkAhead)
    (r : Result WalkAhead E) → q
    ≡ Either (members_of qs) → TellAll t qs ws
    → IfOk r (λ w. (m : ℕ) → truth_at w.truths m ≡ some_has m ws) → IfOk r (λ w. AreTruthsOf t q w.truths)
tells_grouped = grind (arith, some_told, some_past)

pub tells_common : (t : Table) (q : Query) (qs : List Query) (ws : List WalkAhead) (xs : List Bool) → q
    ≡ All (members_of qs) → 0 < length ws → xs ≡ common ws → TellAll t qs ws → AreTruthsOf t q xs
tells_common = grind (arith, common-at, each_told, each_past)

all_of_none : (t : Table) (qs : List Query) (ws : List WalkAhead) (m : ℕ) → length ws ≡ 0 → TellAll t qs ws
    → not (is_true (Either (members_of qs)) (facts_at t m)) ≡ is_true (All (members_of qs)) (facts_at t m)
all_of_none t [] [] m none tells = refl
all_of_none t [] (w ∷ ws) m none tells = absurd tells
all_of_none t (q ∷ qs) [] m none tells = absurd tells
all_of_none t (q ∷ qs) (w ∷ ws) m none tells = absurd (omega (arith, none))

pub tells_none : {E : Type 0} (t : Table) (q : Query) (qs : List Query) (ws : List WalkAhead) (count : ℕ)
    (inner : List Bool) (r : Result WalkAhead E) → q ≡ All (members_of qs) → length ws ≡ 0 → count ≡ length t.messages
    → inner ≡ union_of ws → TellAll t qs ws → IfOk r (λ w. w.truths ≡ others count 0 inner)
    → IfOk r (λ w. AreTruthsOf t q w.truths)
tells_none t q qs ws count inner (Err e) is none long all tells given = tt
tells_none t q qs ws count inner (Ok w) is none long all tells given =
    let turned =
    tells_others t _ _ _ _ long given
    (tells_either t _ _ _ _ refl all tells) in
    grind (arith, all_of_none)

-- ---- member after member

-- the walks so far, and those of the queries that still come
pub record HaveWalks (t : Table) (all coming : List Query) (ws : List WalkAhead) (steps_old steps_new : ℕ) : Type 0
  where
    pub told : (rest : List WalkAhead) → TellAll t coming rest → TellAll t all (ws ++ rest)
    pub left : steps_left_in ws + most_left_of_all t (members_of coming) ≤ most_left_of_all t (members_of all)
    pub rises : steps_old ≤ steps_new
    pub most : (digits : ℕ) → length t.keys < 2 ^ digits
        → steps_new + look_ups_of_all (members_of coming) * digits ≤ steps_old + look_ups_of_all (members_of all) *
        digits

module _ (t : Table) (all : List Query) (steps0 : ℕ) where
  pub walks_more : (q : Query) (last coming : List Query) (ws vs : List WalkAhead) (w : WalkAhead) (steps1 steps2 : ℕ)
      → HaveWalks t all last ws steps0 steps1 → last ≡ q ∷ coming → vs ≡ ws ++ w ∷ []
      → AreTruthsOf t q w.truths → w.left ≤ most_left t q → LooksUp (length t.keys) (look_ups q) steps1 steps2
      → HaveWalks t all coming vs steps0 steps2
  walks_more =
      grind (arith, append_assoc, left-append, add-mul)

  pub walks_steps : (q : Query) (last coming : List Query) (ws : List WalkAhead) (steps1 steps2 : ℕ)
      → HaveWalks t all last ws steps0 steps1 → last ≡ q ∷ coming
      → LooksUp (length t.keys) (look_ups q) steps1 steps2
      → LooksUp (length t.keys) (look_ups_of_all (members_of all)) steps0 steps2
  walks_steps = grind (arith, add-mul)

  pub walks_told : (last : List Query) (ws : List WalkAhead) (steps1 : ℕ) → HaveWalks t all last ws steps0 steps1 → last
      ≡ [] → TellAll t all ws
  walks_told last ws steps1 given none =
      let have =
      subst (λ qs. HaveWalks t all qs ws steps0 steps1) none given in
      subst (TellAll t all) (append-nil ws) (have.told [] tt)

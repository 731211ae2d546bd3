-- A posting list whose first numbers are dropped still has all others, because its numbers rise.
use Rattle.mail_answer.proofs.Words.{◌≡◌, ◌<◌, ◌≤◌, ℕ, suc, true, false, List, [], ◌∷◌, ◌++◌, Option, Some, None, refl, ap, subst, arith, MatchOption, AllByRecursion, option_to_list, ltb-true, cases_lt, ne_eqb, RisesFrom, is_number_among, truth_at, Drops, IsFirst, numbers_ahead, truths_among, AreNumbers, is_before, Bool, slice_get, Adds, IfNone, ◌+◌}
use Rattle.std.proofs.lemmas.List.{append-nil}
use Rattle.std.proofs.lemmas.Bool.{eq-eqb}
use Rattle.mail_answer.specs.Inside.CursorLists.{AreDroppedBelow}
use Rattle.mail_answer.proofs.CursorLaws.TruthReads.{each-at, each-past}

-- ---- rising numbers

pub rises_lower : (low high : ℕ) (ns : List ℕ) → low ≤ high → RisesFrom high ns → RisesFrom low ns
rises_lower low high [] le rises = tt
rises_lower low high (n ∷ ns) le rises = (omega (arith, rises.0), rises.1)

rises_after : (low : ℕ) (front rest : List ℕ) → RisesFrom low (front ++ rest) → RisesFrom 0 rest
rises_after low [] rest rises = rises_lower 0 _ _ (omega arith) rises
rises_after low (n ∷ ns) rest rises = rises_after (suc n) ns _ rises.1

all_after : (P : ℕ → Type 0) (front rest : List ℕ) → AllByRecursion P (front ++ rest) → AllByRecursion P rest
all_after P [] rest all = all
all_after P (n ∷ ns) rest all = all_after P ns _ all.1

pub all_joined : (P : ℕ → Type 0) (front rest : List ℕ) → AllByRecursion P front → AllByRecursion P rest
    → AllByRecursion P (front ++ rest)
all_joined P [] rest all more = more
all_joined P (n ∷ ns) rest all more = (all.0, all_joined P ns _ all.1 more)

-- ---- which numbers are among them

pub not_below : (low m : ℕ) (ns : List ℕ) → m < low → RisesFrom low ns → is_number_among m ns ≡ false
not_below low m [] lt rises = refl
not_below low m (n ∷ ns) lt rises = grind (arith, ne_eqb, not_below _ m ns (omega (arith, rises.0)) rises.1)

among_after : (n m : ℕ) (front rest : List ℕ) → n ≤ m → AllByRecursion (λ k. k < n) front → is_number_among m rest
    ≡ is_number_among m (front ++ rest)
among_after n m [] rest le below = refl
among_after n m (k ∷ ks) rest le below = grind (arith, ne_eqb, among_after n m ks rest le below.1)

pub past_all : (count m : ℕ) (ns : List ℕ) → count ≤ m → AllByRecursion (λ n. n < count) ns → is_number_among m ns
    ≡ false
past_all count m [] past below = refl
past_all count m (n ∷ ns) past below = grind (arith, ne_eqb, past_all _ m ns past below.1)

pub among-at : (count m : ℕ) (ns : List ℕ) → AreNumbers count ns → truth_at (truths_among count ns) m
    ≡ is_number_among m ns
among-at = grind (arith, cases_lt, each-at, each-past, past_all)

-- ---- the first numbers are dropped

before_all : (first : Option ℕ) (n : ℕ) → is_before first n ≡ true → AllByRecursion (λ m. m < n) (option_to_list first)
before_all = grind (arith, ltb-true)

-- what a call of a posting list returns
abbrev pub Gave : ℕ → List ℕ → List ℕ → Option ℕ → Type 0
Gave n old new number =
    MatchOption number (AllByRecursion (λ m. m < n) old × (new ≡ []))
    (λ m. (n ≤ m) × ((dropped : List ℕ) × AllByRecursion (λ k. k < n) dropped × (old ≡ dropped ++ m ∷ new)))

pub cut_more : (first : Option ℕ) (n : ℕ) (old new : List ℕ) (number : Option ℕ) → is_before first n ≡ true
    → RisesFrom 0 (numbers_ahead first old) → Gave n old new number
    → AreDroppedBelow n (numbers_ahead first old) (numbers_ahead number new)
cut_more first n old new None before rises gave = grind (arith, append-nil, all_joined, before_all)
cut_more first n old new (Some m) before rises gave =
    let dropped : List ℕ = gave.1.0 in
    let split : option_to_list first ++ old ≡ (option_to_list first ++ dropped) ++ m ∷ new =
    grind arith in
    grind (arith, rises_after, all_joined, before_all)

-- ---- what still comes from it

pub cut_numbers : (count n : ℕ) (old new : List ℕ) → AreNumbers count old → AreDroppedBelow n old new
    → AreNumbers count new
cut_numbers = grind (arith, rises_lower, all_after)

pub cut_drops : (count n : ℕ) (old new : List ℕ) → AreNumbers count old → AreDroppedBelow n old new
    → Drops n (truths_among count old) (truths_among count new)
cut_drops count n old new are cut =
    let then = cut_numbers _ n _ _ are cut in
    grind (arith, among-at, among_after, not_below)

pub first_among : (count : ℕ) (ns : List ℕ) → AreNumbers count ns → IsFirst (truths_among count ns) (slice_get ns 0)
first_among count [] = grind (arith, among-at)
first_among count (n ∷ ns) = grind (arith, among-at, eq-eqb, not_below)

-- what is left of the numbers has its first number in hand, unless none is left
pub cut_first : (count n : ℕ) (old : List ℕ) (first : Option ℕ) (after : List ℕ) → AreNumbers count old
    → AreDroppedBelow n old (numbers_ahead first after) → IfNone first (after ≡ [])
    → IsFirst (truths_among count (numbers_ahead first after)) first
cut_first count n old None after are cut ended =
    subst (IsFirst (truths_among count after)) (ap (λ ns. slice_get ns 0) ended)
    (first_among _ _ (cut_numbers _ n _ _ are cut))
cut_first count n old (Some m) after are cut ended =
    first_among _ _ (cut_numbers _ n _ _ are cut)

-- the numbers that are marked are those of the messages that still come
pub cut_marks : (count start : ℕ) (numbers : List ℕ) (marks now : List Bool) → AreNumbers count numbers
    → Adds (λ k. is_number_among (start + k) numbers) marks now
    → Adds (λ k. truth_at (truths_among count numbers) (start + k)) marks now
cut_marks = grind (arith, among-at)

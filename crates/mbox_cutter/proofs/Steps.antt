-- Each step of a cutter takes the first of what still comes, line by line.
use Rattle.mbox_cutter.proofs.Words.{◌≡◌, ℕ, ◌+◌, ◌-◌, ◌<◌, ◌≤◌, true, false, ◌||◌, nat_eq, List, [], ◌∷◌, Option, length, take, drop, refl, ap, ◌∙◌, arith, zero-add, length-drop, length-take-le, CutFault, NotAnMbox, ArchiveTooLong, Between, Inside, Ended, lines, first_length, is_empty, is_separator, messages, ArchiveEvent, Start, Line, End, Done, events, archive_refusal, ComingEvents, coming_of, TakesEvent, IsRefusalToCome, closes_at, events_between, events_inside, too_long, resume}
use Rattle.mbox_cutter.proofs.FirstLines.{first_length-le, first_length-positive}
use Rattle.mbox_cutter.proofs.LineLists.{lines-cons, lines-nil}
use Rattle.mbox_cutter.proofs.Machine.{between-start, inside-line, inside-closing_last, inside-closing, inside-empty, separator-full}

same_coming : {a b : List ArchiveEvent} {r q : Option CutFault} → a ≡ b → r ≡ q
    → ◌≡◌ {A = ComingEvents} (record { events = a; refusal = r }) (record { events = b; refusal = q })
same_coming e f = cc

-- ---- the end

no_bytes : (b : List ℕ) → 0 ≡ first_length b → b ≡ []
no_bytes [] e = refl
no_bytes (x ∷ xs) e = grind (arith, first_length-positive)

pub step-done : (at most : ℕ) (b : List ℕ) → 0 ≡ first_length b → at ≤ most
    → TakesEvent (Done at) (resume Between at most b) (resume Ended at most b)
unfolding resume
step-done at most b e h =
    grind (arith, no_bytes, lines-nil)

pub step-end : (at most start size : ℕ) (b : List ℕ) → 0 ≡ first_length b
    → TakesEvent (End (at - start) size) (resume (Inside start size) at most b) (resume Between at most b)
unfolding resume
step-end at most start size b e = grind (arith, no_bytes, lines-nil)

pub ended-stays : (at most : ℕ) (b : List ℕ) → TakesEvent (Done at) (resume Ended at most b) (resume Ended at most b)
unfolding resume
ended-stays at most b = (refl, refl, refl)

-- ---- the first line goes over the limit

first-some : (b : List ℕ) (n : ℕ) → n ≡ first_length b → 0 < n → 0 < length b
first-some b n e h = grind (arith, first_length-le)

-- the first line has n bytes, and the other lines are those of the bytes after it
module _ (b : List ℕ) (n : ℕ) (e : n ≡ first_length b) where
  first-lines : 0 < n → lines b ≡ take n b ∷ lines (drop n b)
  first-lines h = rw e (lines-cons b (first-some b n e h))

  first-taken : length (take n b) ≡ n
  first-taken = grind (arith, first_length-le, length-take-le)

  first-rest : length b ≡ n + length (drop n b)
  first-rest = grind (arith, first_length-le, length-drop)

  first-all : (at : ℕ) → at + length b ≡ (at + n) + length (drop n b)
  first-all at = grind (arith, first-rest)

pub step-long : (at most : ℕ) (b : List ℕ) → at ≤ most → most < at + first_length b
    → IsRefusalToCome ArchiveTooLong (resume Between at most b)
unfolding resume
step-long at most b le h =
    let len : length (take (first_length b) b) ≡ first_length b = first-taken b (first_length b) refl in
    grind (arith, first-lines, len, first_length-le)

pub step-long_inside : (at most start size : ℕ) (b : List ℕ) → most < at + first_length b
    → IsRefusalToCome ArchiveTooLong (resume (Inside start size) at most b)
unfolding resume
step-long_inside at most start size b h =
    grind (arith, first_length-le)

-- ---- a first line

module _ (at most n : ℕ) (b : List ℕ) (e : n ≡ first_length b) (h : 0 < n) where
  len : length (take n b) ≡ n
  len = first-taken b n e

  -- what comes of all lines is what comes of the first one and of those after it
  front : (f : ℕ → List (List ℕ) → List ArchiveEvent) → f (at + length b) (lines b)
      ≡ f ((at + n) + length (drop n b)) (take n b ∷ lines (drop n b))
  front f = cc (first-lines b n e h, first-all b n e at)

  all-same : too_long most ((at + n) + length (drop n b)) ≡ too_long most (at + length b)
  all-same = cc (first-all b n e at)

  pub step-start : is_separator (take n b) ≡ true
      → TakesEvent (Start at (take n b)) (resume Between at most b) (resume (Inside at 0) (at + n) most (drop n b))
  unfolding resume
  step-start s =
      let full : is_empty (take n b) ≡ false = separator-full (take n b) s in (
        front (λ all ls. events_between all at ls)
            ∙ between-start (take n b) (lines (drop n b)) n len ((at + n) + length (drop n b)) at s full,
        grind (arith, all-same, first-lines),
      )

  pub step-empty : is_separator (take n b) ≡ false → is_empty (take n b) ≡ true → resume Between at most b
      ≡ resume Between (at + n) most (drop n b)
  unfolding resume
  step-empty s f =
      grind (arith, len, first-lines, first-rest)

  pub step-refused : is_separator (take n b) ≡ false → is_empty (take n b) ≡ false → at + n ≤ most
      → IsRefusalToCome NotAnMbox (resume Between at most b)
  unfolding resume
  step-refused s f fits = grind (arith, first-lines, len)

  -- ---- inside a message

  module _ (start size : ℕ) where
    pub step-line : is_empty (take n b) ≡ false
        → TakesEvent (Line (take n b)) (resume (Inside start size) at most b)
        (resume (Inside start (size + n)) (at + n) most (drop n b))
    unfolding resume
    step-line f = (
      front (λ all ls. events_inside all at start size ls)
          ∙ inside-line (take n b) (lines (drop n b)) n len ((at + n) + length (drop n b)) at start size f,
      all-same,
    )

    -- another empty line
    step-kept : (m : ℕ) → is_empty (take n b) ≡ true → m ≡ first_length (drop n b) → 0 < m
        → is_separator (take m (drop n b)) ≡ false →
        TakesEvent (Line (take n b)) (resume (Inside start size) at most b)
        (resume (Inside start (size + n)) (at + n) most (drop n b))
    unfolding resume
    step-kept m f d k s = (
      front (λ all ls. events_inside all at start size ls)
          ∙ inside-empty (take n b) (lines (drop n b)) n len (take m (drop n b)) (lines (drop m (drop n b)))
          (first-lines (drop n b) m d k) ((at + n) + length (drop n b)) at start size f s,
      all-same,
    )

    -- an empty line before a start
    step-closing : (m : ℕ) → is_empty (take n b) ≡ true → m ≡ first_length (drop n b) → 0 < m
        → is_separator (take m (drop n b)) ≡ true →
        TakesEvent (End ((at + n) - start) size) (resume (Inside start size) at most b)
        (resume Between (at + n) most (drop n b))
    unfolding resume
    step-closing m f d k s =
        let full : is_empty (take m (drop n b)) ≡ false = separator-full (take m (drop n b)) s in
        let next : lines (drop n b) ≡ take m (drop n b) ∷ lines (drop m (drop n b)) = first-lines (drop n b) m d k in (
          front (λ all ls. events_inside all at start size ls)
              ∙ inside-closing (take n b) (lines (drop n b)) n len (take m (drop n b)) (lines (drop m (drop n b))) next
              ((at + n) + length (drop n b)) at start size f s full,
          grind (arith, all-same),
        )

    -- an empty line at the end
    step-closing_last : is_empty (take n b) ≡ true → 0 ≡ first_length (drop n b) →
        TakesEvent (End ((at + n) - start) size) (resume (Inside start size) at most b)
        (resume Between (at + n) most (drop n b))
    unfolding resume
    step-closing_last f d =
        let none : lines (drop n b) ≡ [] = ap lines (no_bytes (drop n b) d) ∙ lines-nil in (
          front (λ all ls. events_inside all at start size ls)
              ∙ inside-closing_last (take n b) (lines (drop n b)) n len ((at + n) + length (drop n b)) at start size f
              none,
          grind (arith, all-same),
        )

    closed-cases : (m : ℕ) → is_empty (take n b) ≡ true → m ≡ first_length (drop n b)
        → (nat_eq m 0 || is_separator (take m (drop n b))) ≡ true →
        TakesEvent (End ((at + n) - start) size) (resume (Inside start size) at most b)
        (resume Between (at + n) most (drop n b))
    closed-cases m h h2 h3 = grind (arith, step-closing_last, step-closing)

    pub step-closed : is_empty (take n b) ≡ true → closes_at n b ≡ true
        → TakesEvent (End ((at + n) - start) size) (resume (Inside start size) at most b)
        (resume Between (at + n) most (drop n b))
    step-closed f c = grind (arith, closed-cases)

    pub step-open : is_empty (take n b) ≡ true → closes_at n b ≡ false
        → TakesEvent (Line (take n b)) (resume (Inside start size) at most b)
        (resume (Inside start (size + n)) (at + n) most (drop n b))
    step-open f c =
        grind (arith, step-kept)

-- ---- the beginning

events-beginning : (b : List ℕ) → events_between (0 + length b) 0 (lines b) ≡ events b
unfolding events messages
events-beginning b =
    grind arith

pub resume-beginning : (most : ℕ) (b : List ℕ) → resume Between 0 most b ≡ coming_of most b
unfolding resume archive_refusal
resume-beginning most b = same_coming (events-beginning b) (simp zero-add)

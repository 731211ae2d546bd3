-- The state of a Header after one more line, for each stage before the line.
use Rattle.header_text.proofs.Words.{◌≡◌, ◌∙◌, ◌+◌, ◌-◌, ◌≤◌, ◌<◌, ◌++◌, ◌||◌, ◌⊎◌, inl, inr, ℕ, Bool, true, false, nat_le, nat_lt, List, [], ◌∷◌, length, refl, sym, ap, arith, length-append, cases_lt, is_empty, HeaderField, most_in_header, lines_before_empty, lines_within, header, fields_of, is_field_open_after, fields_with, has_empty, lines_size, stage_of, stage_after, Open, Full, Ended}
use Rattle.header_text.specs.HeldLines.{Holds, taken_of}
use Rattle.header_text.specs.declared.header.Stage.{Stage}
use Rattle.header_text.specs.declared.header.Taken.TheVariants.{More, Ended as HeaderEnded}
use Rattle.header_text.proofs.HeaderLaws.HeaderLemmas.{fields_in-push, is_open_after-push}

-- ---- the empty line

before_empty-none : (ls : List (List ℕ)) → has_empty ls ≡ false → lines_before_empty ls ≡ ls
before_empty-none [] h = refl
before_empty-none (l ∷ ls) h = grind (arith, before_empty-none ls)

before_empty-push_some : (ls : List (List ℕ)) (l : List ℕ) → has_empty ls ≡ true → lines_before_empty (ls ++ l ∷ [])
    ≡ lines_before_empty ls
before_empty-push_some [] l h = absurd (cc)
before_empty-push_some (k ∷ ks) l h = grind (arith, before_empty-push_some ks l)

before_empty-push_end : (ls : List (List ℕ)) (l : List ℕ) → is_empty l ≡ true → lines_before_empty (ls ++ l ∷ [])
    ≡ lines_before_empty ls
before_empty-push_end [] l h = rw (h, lines_before_empty) refl
before_empty-push_end (k ∷ ks) l h = grind (arith, before_empty-push_end ks l h)

pub has_empty-push : (ls : List (List ℕ)) (l : List ℕ) → has_empty (ls ++ l ∷ []) ≡ (has_empty ls || is_empty l)
has_empty-push [] l = grind arith
has_empty-push (k ∷ ks) l = grind (arith, has_empty-push ks l)

-- ---- the room

lines_size-push : (ls : List (List ℕ)) (l : List ℕ) → lines_size (ls ++ l ∷ []) ≡ lines_size ls + length l
lines_size-push [] l = omega arith
lines_size-push (k ∷ ks) l = let later = lines_size-push ks l in omega arith

within-all : (room : ℕ) (ls : List (List ℕ)) → lines_size ls ≤ room → lines_within room ls ≡ ls
within-all room [] h = refl
within-all room (l ∷ ls) h = grind (arith, nat_le, within-all (room - length l) ls (omega arith))

-- after a line that didn't fit, no line counts
record Stops (room : ℕ) (ls more : List (List ℕ)) : Type 0 where
  same : lines_within room (ls ++ more) ≡ lines_within room ls
  fewer : length (lines_within room ls) < length ls

stops : (room : ℕ) (ls more : List (List ℕ)) → room < lines_size ls → Stops room ls more
stops room [] more h = absurd (omega arith)
stops room (l ∷ ls) more h = grind (arith, stops (room - length l) ls more)

-- a line that doesn't fit
overflow : (room : ℕ) (ls : List (List ℕ)) (l : List ℕ) → lines_size ls ≤ room → room - lines_size ls < length l
    → lines_within room (ls ++ l ∷ []) ≡ ls
overflow room [] l h over = grind arith
overflow room (k ∷ ks) l h over = grind (arith, overflow (room - length k) ks l (omega arith) (omega arith))

pub size-within : (room : ℕ) (ls : List (List ℕ)) → lines_size (lines_within room ls) ≤ room
size-within room [] = omega arith
size-within room (l ∷ ls) = grind (arith, size-within (room - length l) ls)

-- ---- the stages

stage_of-ended : (ls : List (List ℕ)) → has_empty ls ≡ true → stage_of ls ≡ Ended
unfolding stage_of
stage_of-ended ls h = rw h refl

stage_of-full : (ls : List (List ℕ)) → has_empty ls ≡ false → length (header ls) < length ls → stage_of ls ≡ Full
unfolding stage_of
stage_of-full ls h less = grind arith

stage_of-open : (ls : List (List ℕ)) → has_empty ls ≡ false → header ls ≡ ls → stage_of ls ≡ Open
unfolding stage_of
stage_of-open ls h same = grind (arith, same, nat_lt)

-- the stage after a line, and whether the line counts
pub record Steps (ls : List (List ℕ)) (l : List ℕ) (stage : Stage) (size : ℕ) : Type 0 where
  pub next : stage_after stage size l ≡ stage_of (ls ++ l ∷ [])
  pub counts : stage_of (ls ++ l ∷ []) ≡ Open → header (ls ++ l ∷ []) ≡ header ls ++ l ∷ []
  pub was_open : stage_of (ls ++ l ∷ []) ≡ Open → stage ≡ Open
  pub stays : (stage_of (ls ++ l ∷ []) ≡ Open → ⊥) → header (ls ++ l ∷ []) ≡ header ls

abbrev front : List (List ℕ) → List (List ℕ)
front ls = lines_within most_in_header ls

header-none : (ls : List (List ℕ)) → has_empty ls ≡ false → header ls ≡ front ls
header-none ls h = ap front (before_empty-none ls h)

-- the header has ended before the line
steps-ended : (ls : List (List ℕ)) (l : List ℕ) (stage : Stage) (size : ℕ) → has_empty ls ≡ true → stage ≡ stage_of ls
    → Steps ls l stage size
steps-ended ls l stage size h e =
    grind (arith, stage_of-ended, has_empty-push, before_empty-push_some)

-- the line ends it
steps-end : (ls : List (List ℕ)) (l : List ℕ) (stage : Stage) (size : ℕ) → has_empty ls ≡ false → is_empty l ≡ true
    → Steps ls l stage size
steps-end ls l stage size h e =
    grind (arith, has_empty-push, stage_of-ended, before_empty-push_end)

-- a line didn't fit before this line
steps-full : (ls : List (List ℕ)) (l : List ℕ) (stage : Stage) (size : ℕ) → has_empty ls ≡ false → is_empty l ≡ false
    → stage ≡ stage_of ls → most_in_header < lines_size ls → Steps ls l stage size
steps-full ls l stage size h e s over =
    grind (arith, has_empty-push, stops, header-none, stage_of-full, length-append)

-- all lines before this one count
steps-open : (ls : List (List ℕ)) (l : List ℕ) (stage : Stage) (size : ℕ) → has_empty ls ≡ false → is_empty l ≡ false
    → stage ≡ stage_of ls → size ≡ lines_size (header ls) → lines_size ls ≤ most_in_header → Steps ls l stage size
steps-open ls l stage size h e s n fits =
    grind (
      arith,
      has_empty-push,
      header-none,
      within-all,
      stage_of-open,
      overflow,
      stage_of-full,
      length-append,
      lines_size-push,
    )

pub steps : (ls : List (List ℕ)) (l : List ℕ) (stage : Stage) (size : ℕ) → stage ≡ stage_of ls → size
    ≡ lines_size (header ls) → Steps ls l stage size
steps ls l stage size s n = go (has_empty ls) refl (is_empty l) refl (cases_lt most_in_header (lines_size ls))
  where
    go : (t : Bool) → has_empty ls ≡ t → (u : Bool) → is_empty l ≡ u → (most_in_header < lines_size ls)
        ⊎ (lines_size ls ≤ most_in_header) → Steps ls l stage size
    go true h u e c = steps-ended ls l stage size h s
    go false h true e c = steps-end ls l stage size h e
    go false h false e (inl over) = steps-full ls l stage size h e s over
    go false h false e (inr fits) = steps-open ls l stage size h e s n fits

stage_of-ended_only : (ls : List (List ℕ)) → stage_of ls ≡ Ended → has_empty ls ≡ true
unfolding stage_of
stage_of-ended_only ls e = grind arith

taken-ended : (ls : List (List ℕ)) → has_empty ls ≡ true → HeaderEnded ≡ taken_of ls
taken-ended ls h = rw h refl

taken-more : (ls : List (List ℕ)) → (stage_of ls ≡ Ended → ⊥) → More ≡ taken_of ls
taken-more ls goes_on = grind (arith, stage_of-ended ls)

-- ---- one more line

pub holds_new : (fs : List HeaderField) → fs ≡ [] → Holds fs 0 false Open []
unfolding fields_of stage_of
holds_new fs e = grind arith

module _ (fs : List HeaderField) (size : ℕ) (in_field : Bool) (stage : Stage) (ls : List (List ℕ)) (l : List ℕ)
    (h : Holds fs size in_field stage ls) where
  stepped : Steps ls l stage size
  stepped = steps ls l stage size h.stage_is h.size_is

  -- a line that counts
  pub holds-counted : (new : List HeaderField) (after : Bool) → stage_after stage size l ≡ Open → new
      ≡ fields_with in_field l fs → after ≡ is_field_open_after in_field l
      → Holds new (size + length l) after stage (ls ++ l ∷ [])
  unfolding fields_of
  holds-counted new after e f g =
      let still : stage_of (ls ++ l ∷ []) ≡ Open = sym stepped.next ∙ e in
      let more : header (ls ++ l ∷ []) ≡ header ls ++ l ∷ [] = stepped.counts still in
      grind (arith, fields_in-push, lines_size-push, is_open_after-push)

  -- a line that doesn't count
  pub holds-skipped : (next : Stage) → stage_after stage size l ≡ next → (next ≡ Open → ⊥)
      → Holds fs size in_field next (ls ++ l ∷ [])
  unfolding fields_of
  holds-skipped next e closed =
      let is : next ≡ stage_of (ls ++ l ∷ []) = sym e ∙ stepped.next in
      let same : header (ls ++ l ∷ []) ≡ header ls = stepped.stays (λ o. closed (is ∙ o)) in
      grind arith

  -- a line after the end
  pub holds-ended : stage ≡ Ended → Holds fs size in_field stage (ls ++ l ∷ [])
  holds-ended e = grind (arith, holds-skipped)

  pub has_empty-ended : stage ≡ Ended → has_empty (ls ++ l ∷ []) ≡ true
  has_empty-ended e = grind (arith, stage_of-ended_only, has_empty-push)

  pub never_ended : has_empty ls ≡ true → (stage ≡ Ended → ⊥) → ⊥
  never_ended some goes_on = grind (arith, stage_of-ended)

  -- what the line means for the header
  pub taken-next_ended : stage_after stage size l ≡ Ended → HeaderEnded ≡ taken_of (ls ++ l ∷ [])
  taken-next_ended e = taken-ended (ls ++ l ∷ []) (stage_of-ended_only (ls ++ l ∷ []) (sym stepped.next ∙ e))

  pub taken-next_more : (stage_after stage size l ≡ Ended → ⊥) → More ≡ taken_of (ls ++ l ∷ [])
  taken-next_more goes_on = taken-more (ls ++ l ∷ []) (λ e. goes_on (stepped.next ∙ e))

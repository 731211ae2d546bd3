-- Laws of what is open, the innermost first.
use Rattle.mail_query.proofs.Words.{◌≡◌, ℕ, ◌+◌, ◌-◌, ◌<◌, ◌≤◌, Bool, true, false, ◌||◌, Ok, Err, List, [], ◌∷◌, ◌++◌, length, take, drop, get_or, drop-cons, refl, ◌∙◌, arith, IsLastAndRest, drop_all, or-false, le-leb, lt-leb, TooDeep, BadParenthesis, Query, Not, shown_level, shown_waiting, nearest_first, shown_stack, Level, Waiting, ForNot, ForClose, is_negated, has_open, state_after_operand, deeper, state_after_group, level_query}
use Rattle.mail_query.specs.declared.boolean.reader.Level.{Level as CodeLevel}
use Rattle.mail_query.specs.declared.boolean.reader.Waiting.{Waiting as CodeWaiting}
use Rattle.mail_query.specs.declared.boolean.reader.Waiting.TheVariants as code_waiting
use Rattle.mail_query.proofs.PieceLemmas.{last_of, before_last}

nearest_first-push : (ws : List CodeWaiting) (w : CodeWaiting) (after : List Waiting)
    → nearest_first (ws ++ w ∷ []) after ≡ shown_waiting w ∷ nearest_first ws after
nearest_first-push [] w after = refl
nearest_first-push (v ∷ ws) w after = nearest_first-push ws w (shown_waiting v ∷ after)

-- the last of the list is the innermost
pub shown_stack-push : (ws : List CodeWaiting) (w : CodeWaiting) → shown_stack (ws ++ w ∷ [])
    ≡ shown_waiting w ∷ shown_stack ws
shown_stack-push ws w = nearest_first-push ws w []

length-nearest_first : (ws : List CodeWaiting) (after : List Waiting) → length (nearest_first ws after)
    ≡ length ws + length after
length-nearest_first [] after = omega arith
length-nearest_first (w ∷ ws) after = omega (arith, length-nearest_first ws (shown_waiting w ∷ after))

pub length-shown_stack : (ws : List CodeWaiting) → length (shown_stack ws) ≡ length ws
length-shown_stack ws = omega (arith, length-nearest_first ws [])

pub negated_last : (ws front : List CodeWaiting) → IsLastAndRest ws code_waiting.ForNot front
    → is_negated (shown_stack ws) ≡ true
negated_last ws front h = grind (arith, shown_stack-push)

pub open_last : (ws front : List CodeWaiting) (w : CodeWaiting) (level : Level) → IsLastAndRest ws w front
    → shown_waiting w ≡ ForClose level → is_negated (shown_stack ws) ≡ false
open_last ws front w level h e = grind (arith, shown_stack-push)

-- ---- whether a `(` is open

abbrev pub has_open_code : List CodeWaiting → Bool
has_open_code [] = false
has_open_code (code_waiting.ForNot ∷ ws) = has_open_code ws
has_open_code (code_waiting.ForClose level ∷ ws) = true

has_open-nearest_first : (ws : List CodeWaiting) (after : List Waiting) → has_open (nearest_first ws after)
    ≡ (has_open_code ws || has_open after)
has_open-nearest_first [] after = refl
has_open-nearest_first (code_waiting.ForNot ∷ ws) after = has_open-nearest_first ws (ForNot ∷ after)
has_open-nearest_first (code_waiting.ForClose level ∷ ws) after =
    grind (arith, has_open-nearest_first ws)

pub has_open-shown_stack : (ws : List CodeWaiting) → has_open (shown_stack ws) ≡ has_open_code ws
has_open-shown_stack ws = has_open-nearest_first ws [] ∙ or-false (has_open_code ws)

-- ---- whether one more may be open

pub deeper-full : (waiting : List Waiting) (what : Waiting) (level : Level) → 30 ≤ length waiting
    → deeper waiting what level ≡ Err TooDeep
deeper-full waiting what level h = rw (le-leb 30 (length waiting) h) refl

pub deeper-room : (waiting : List Waiting) (what : Waiting) (level : Level) → length waiting < 30
    → deeper waiting what level ≡ Ok (record { waiting = what ∷ waiting; level = level; wanted = true })
deeper-room waiting what level h = rw (lt-leb 30 (length waiting) h) refl

-- ---- all but the last

pub negated_some : (ws : List CodeWaiting) → is_negated (shown_stack ws) ≡ true → 0 < length ws
negated_some [] e = absurd cc
negated_some (w ∷ ws) e = omega arith

pub placed-not : (ws : List CodeWaiting) (level : Level) (q : Query) → is_negated (shown_stack ws) ≡ true
    → state_after_operand (shown_stack ws) level q
    ≡ state_after_operand (shown_stack (take (length ws - 1) ws)) level (Not q)
placed-not ws level q e = grind (arith, last_of, negated_some, shown_stack-push, before_last)

pub pops-close : (ws rest : List CodeWaiting) (outer : CodeLevel) (level : Level) → ws
    ≡ rest ++ code_waiting.ForClose outer ∷ []
    → state_after_group (shown_stack ws) level
    ≡ Ok (state_after_operand (shown_stack rest) (shown_level outer) (level_query level))
pops-close ws rest outer level e = grind (arith, shown_stack-push)

pub pops-not : (ws rest : List CodeWaiting) (level : Level) → ws ≡ rest ++ code_waiting.ForNot ∷ []
    → state_after_group (shown_stack ws) level ≡ Err BadParenthesis
pops-not ws rest level e = grind (arith, shown_stack-push)

-- ---- an open `(`, found from the front

pub open_here : (ws : List CodeWaiting) (i : ℕ) (item : CodeWaiting) (level : CodeLevel) → i < length ws → item
    ≡ get_or ws i item → item ≡ code_waiting.ForClose level
    → has_open_code (drop i ws) ≡ has_open_code ws → true ≡ has_open (shown_stack ws)
open_here ws i item level below here is h = grind (arith, drop-cons, has_open-shown_stack)

pub none_open : (ws : List CodeWaiting) (i : ℕ) → length ws ≤ i → has_open_code (drop i ws) ≡ has_open_code ws → false
    ≡ has_open (shown_stack ws)
none_open ws i past h = grind (arith, drop_all, has_open-shown_stack)

-- Lists of rising numbers of messages, and the text of an answer, number by number.
use Rattle.mail_answer.proofs.Words.{◌≡◌, ℕ, ◌+◌, ◌<◌, ◌≤◌, List, [], ◌∷◌, ◌++◌, length, Option, arith, AllByRecursion, flat_map-cons, Table, RisesFrom, Query, AreNumbers, known_answer, known_message, answer_text, message_text, joined_texts, IsIfKnown, record_at, chosen_numbers}
use Rattle.mail_answer.specs.declared.format.Format.{Format}
use Rattle.mail_answer.proofs.ThreadLaws.ChosenThreads.{passed_rise, passed_below, lower}

-- the first number is dropped
pub numbers_next : (count n : ℕ) (ns : List ℕ) → AreNumbers count (n ∷ ns) → AreNumbers count ns
numbers_next = grind (arith, lower)

-- there are at most as many rising numbers between two as their difference
pub few_numbers : (low high : ℕ) (ns : List ℕ) → low ≤ high → RisesFrom low ns → AllByRecursion (λ n. n < high) ns
    → low + length ns ≤ high
few_numbers low high [] le rises below = omega (arith, le)
few_numbers low high (n ∷ ns) le rises below =
    grind (arith, few_numbers _ _ ns (omega (arith, below.0)) rises.1 below.1)

-- ---- the chosen numbers are rising numbers of messages

pub numbers_chosen : (t : Table) (q : Query) → AreNumbers (length t.messages) (chosen_numbers t q)
numbers_chosen = grind (arith, passed_rise, passed_below)

-- ---- the text of the first message, and of those after it

text_first : (format : Format) (t : Table) (archives : List (List ℕ)) (n : ℕ) (ns : List ℕ)
    → answer_text format t archives (n ∷ ns)
    ≡ message_text format t.archives archives (record_at t.messages n) ++ answer_text format t archives ns
text_first = grind (arith, flat_map-cons)

pub known_first : (format : Format) (t : Table) (held : Option (List (List ℕ))) (n : ℕ) (ns : List ℕ)
    → known_answer format t held (n ∷ ns) ≡ joined_texts (known_message format t held n) (known_answer format t held ns)
known_first = grind (arith, text_first)

pub known_none : (format : Format) (t : Table) (held : Option (List (List ℕ)))
    → IsIfKnown (known_answer format t held []) []
known_none = grind arith

-- ---- a list of which some numbers were returned

-- The messages of an archive come one after another within it, and each is longer than its text.
use Rattle.index_job.proofs.Words.{◌≡◌, ◌∙◌, ℕ, ◌+◌, ◌<◌, ◌≤◌, Bool, true, List, [], ◌∷◌, length, map, None, refl, ap, arith, length-append, AllByRecursion, concat, and_parts, ltb-false, Message, total, marked_lines, grouped_lines, without_closing, size, span_length, messages_from, messages, archive_refusal, messages_in}
use Rattle.mbox_cutter.specs.Lines.{lines, is_empty}
use Rattle.mbox_cutter.specs.Separators.{is_separator}
use Rattle.mbox_cutter.proofs.LinesAreCut.{lines-AreLines}

-- the messages come one after another from the first place up to the second, and each is longer than its text
abbrev pub AreSpanned : ℕ → ℕ → List Message → Type 0
AreSpanned at end [] = Unit {0}
AreSpanned at end (m ∷ ms) = (at ≤ m.offset) × (m.offset + span_length m ≤ end) × (size m < span_length m)
    × AreSpanned (m.offset + span_length m) end ms

-- ---- lines

closing-fewer : (ls : List (List ℕ)) → total (without_closing ls) ≤ total ls
closing-fewer [] = omega arith
closing-fewer (l ∷ []) = grind arith
closing-fewer (l ∷ m ∷ ls) = omega (arith, closing-fewer (m ∷ ls))

total-joined : (ls : List (List ℕ)) → total ls ≡ length (concat ls)
total-joined [] = refl
total-joined (l ∷ ls) = omega (arith, total-joined ls, length-append l (concat ls))

lines-total : (bytes : List ℕ) → total (lines bytes) ≡ length bytes
lines-total bytes = total-joined _ ∙ ap length (lines-AreLines _).joined

marked-lines : (may_start : Bool) (ls : List (List ℕ))
    → map (λ (mark : Bool × List ℕ). mark.1) (marked_lines may_start ls)
    ≡ ls
marked-lines _ [] = refl
marked-lines _ (l ∷ ls) = ap (λ (rest : List (List ℕ)). l ∷ rest) (marked-lines (is_empty l) ls)

separator-some : (l : List ℕ) → is_separator l ≡ true → 0 < length l
unfolding is_separator
separator-some [] is = absurd cc
separator-some (b ∷ l) is = omega arith

-- a line that begins a message has at least one byte
abbrev StartsSome : Bool × List ℕ → Type 0
StartsSome mark = mark.0 ≡ true → 0 < length mark.1

marked-some : (may_start : Bool) (ls : List (List ℕ)) → AllByRecursion StartsSome (marked_lines may_start ls)
marked-some _ [] = tt
marked-some may_start (l ∷ ls) = (
  λ is. separator-some l (and_parts may_start (is_separator l) is).1,
  marked-some (is_empty l) ls,
)

-- ---- groups of lines

abbrev Group : Type 0
Group = List ℕ × List (List ℕ)

groups_total : List Group → ℕ
groups_total [] = 0
groups_total (g ∷ gs) = length g.0 + total g.1 + groups_total gs

grouped-total : (marks : List (Bool × List ℕ)) → total (grouped_lines marks).0 + groups_total (grouped_lines marks).1
    ≡ total (map (λ (mark : Bool × List ℕ). mark.1) marks)
unfolding groups_total
grouped-total [] = omega arith
grouped-total (mark ∷ marks) = grind (arith, grouped-total marks)

grouped-some : (marks : List (Bool × List ℕ)) → AllByRecursion StartsSome marks
    → AllByRecursion (λ (g : Group). 0 < length g.0) (grouped_lines marks).1
grouped-some [] _ = tt
grouped-some (mark ∷ marks) all = grind (arith, grouped-some marks all.1)

-- ---- messages

from-groups : (low at end : ℕ) (gs : List Group) → low ≤ at → at + groups_total gs ≤ end
    → AllByRecursion (λ (g : Group). 0 < length g.0) gs → AreSpanned low end (messages_from at gs)
unfolding groups_total
from-groups _ _ _ [] _ _ _ = tt
from-groups _ at end (g ∷ gs) after within some = (
  after,
  omega arith,
  omega (arith, closing-fewer),
  from-groups (at + (length g.0 + total g.1)) (at + (length g.0 + total g.1)) end gs (omega arith) (omega arith) some.1,
)

pub messages-spanned : (bytes : List ℕ) → AreSpanned 0 (length bytes) (messages_in bytes)
unfolding messages
messages-spanned bytes = grind (
  arith,
  from-groups,
  grouped-total,
  total,
  marked-lines,
  lines-total,
  grouped-some,
  marked_lines,
  lines,
  marked-some,
)

-- ---- the archive

pub unrefused-short : (most : ℕ) (bytes : List ℕ) → archive_refusal most bytes ≡ None → length bytes ≤ most
unfolding archive_refusal
unrefused-short most bytes = grind (arith, ltb-false)

-- The lines of bytes join to the bytes, and each ends where a line does.
use Rattle.mbox_cutter.proofs.Words.{◌≡◌, None, Some, ℕ, zero, suc, ◌-◌, ◌<◌, ◌≤◌, ◌==◌, List, [], ◌∷◌, ◌++◌, length, take, drop, refl, ap, ◌∙◌, subst, arith, concat, nat_tests, length-drop, length-take-le, take-append-drop, take_all, line_end_of, length_before_feed, first_length, lines, IsLine, AreCut, AreLines}
use Rattle.mbox_cutter.proofs.FirstLines.{line_end-within, line_end-whole, length_before_feed-le, length_before_feed-take, first_length-le}
use Rattle.mbox_cutter.proofs.LineLists.{by_lines, lines-cons, lines-nil}

length_before_feed-drop : (k : ℕ) (b : List ℕ) → k ≤ length_before_feed b → length_before_feed (drop k b)
    ≡ length_before_feed b - k
length_before_feed-drop zero b h = omega arith
length_before_feed-drop (suc k) [] h = absurd (omega arith)
length_before_feed-drop (suc k) (x ∷ xs) h =
    grind (arith, length_before_feed-drop k xs)

-- the first line of bytes is a line
pub first_line-IsLine : (b : List ℕ) → 0 < length b → IsLine (take (first_length b) b)
unfolding first_length
first_line-IsLine b h =
    grind (arith, first_length-le, length-take-le, length_before_feed-take)

open_line : (b : List ℕ) → first_length b ≤ length_before_feed b → first_length b < length b → (first_length b ≡ 65536)
    × (65536 < length_before_feed b)
unfolding first_length
open_line b h below = grind arith

-- if the first line has no LF and others follow it, it is full and no LF follows
first_line-full : (b : List ℕ) → 0 < length (drop (first_length b) b) → length_before_feed (take (first_length b) b)
    ≡ length (take (first_length b) b) →
    (length (take (first_length b) b) ≡ 65536)
    × (0 < length_before_feed (take (first_length (drop (first_length b) b)) (drop (first_length b) b)))
first_line-full b some no_feed =
    grind (arith, length-take-le, length-drop, length_before_feed-take, open_line, length_before_feed-drop)

joined_cut : (l rest : List ℕ) → IsLine l
    → (0 < length rest → length_before_feed l ≡ length l → (length l ≡ 65536)
    × (0 < length_before_feed (take (first_length rest) rest))) → AreCut (lines rest) → AreCut (l ∷ lines rest)
joined_cut l [] is full cut = rw lines-nil is
joined_cut l (y ∷ ys) is full cut = grind (arith, lines-cons)

pub lines-AreLines : (b : List ℕ) → AreLines b (lines b)
lines-AreLines b = record {
  joined = by_lines (λ b. concat (lines b) ≡ b) (rw lines-nil refl) (λ b some rest. ap concat (lines-cons b some)
      ∙ ap (λ (after : List ℕ). take (first_length b) b ++ after) rest ∙ take-append-drop (first_length b) b)
      (length b) b (omega arith);
  each = by_lines (λ b. AreCut (lines b)) (rw lines-nil tt) (λ b some rest. rw (lines-cons b some)
      (joined_cut (take (first_length b) b) (drop (first_length b) b) (first_line-IsLine b some) (first_line-full b)
      rest)) (length b) b (omega arith);
}

-- if the end of the first line is known, the bytes begin with a line
pub line_end-IsLine : (b : List ℕ) (n : ℕ) → Some n ≡ line_end_of b → IsLine (take n b)
unfolding line_end_of
line_end-IsLine b n e =
    grind (arith, length_before_feed-le, line_end-within, length-take-le, length_before_feed-take, nat_tests)

-- if it isn't known, and no byte is to come, the bytes are a line
pub open_end-IsLine : (b : List ℕ) → None ≡ line_end_of b → 0 < length b → IsLine b
open_end-IsLine b e h =
    subst IsLine (cc (line_end-whole b e, take_all (length b) b (omega arith)))
    (first_line-IsLine b h)

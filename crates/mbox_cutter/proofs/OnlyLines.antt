-- A list of lines that joins to the bytes is the list of their lines, because each first line is the first line.
use Rattle.mbox_cutter.proofs.Words.{◌≡◌, ℕ, ◌+◌, ◌<◌, ◌≤◌, ◌⊎◌, ◌==◌, List, [], ◌∷◌, ◌++◌, length, append-nil, ap, sym, ◌∙◌, arith, concat, take-append_seam, drop-append_seam, length_before_feed, first_length, lines, IsLine, AreCut, AreLines}
use Rattle.std.proofs.lemmas.List.{length-append}
use Rattle.mbox_cutter.proofs.FirstLines.{length_before_feed-le, length_before_feed-append_in, length_before_feed-append_out}
use Rattle.mbox_cutter.proofs.LineLists.{lines-cons, lines-nil}

length_before_feed-append-positive : (a b : List ℕ) → 0 < length_before_feed a → 0 < length_before_feed (a ++ b)
length_before_feed-append-positive [] b h = absurd (omega arith)
length_before_feed-append-positive (x ∷ xs) b h =
    grind arith

-- a line that has its LF
first-closed : (l rest : List ℕ) → IsLine l → length_before_feed l < length l → first_length (l ++ rest) ≡ length l
unfolding first_length
first-closed l rest is h =
    grind (arith, length_before_feed-append_in, length-append)

-- a line of 65,536 bytes that no LF follows
first-full : (l rest : List ℕ) → length_before_feed l ≡ length l → length l ≡ 65536 → 0 < length_before_feed rest
    → first_length (l ++ rest) ≡ length l
unfolding first_length
first-full l rest e n h =
    grind (arith, length_before_feed-append_out)

-- the last line, without LF
first-last : (l : List ℕ) → IsLine l → length_before_feed l ≡ length l → first_length l ≡ length l
unfolding first_length
first-last l is e = grind arith

either-way : (l : List ℕ) → (length_before_feed l < length l) ⊎ (length_before_feed l ≡ length l)
either-way l = grind (arith, length_before_feed-le)

first-is : (l : List ℕ) (ls : List (List ℕ)) → AreCut (l ∷ ls) → first_length (l ++ concat ls) ≡ length l
first-is l ls h = grind (
  arith,
  either-way,
  first-closed,
  append-nil,
  first-last,
  first-full,
  length_before_feed-append-positive,
)

is_line : (l : List ℕ) (ls : List (List ℕ)) → AreCut (l ∷ ls) → IsLine l
is_line l ls h = grind arith

rest_cut : (l : List ℕ) (ls : List (List ℕ)) → AreCut (l ∷ ls) → AreCut ls
rest_cut l ls h = grind arith

only : (ls : List (List ℕ)) → AreCut ls → ls ≡ lines (concat ls)
only [] c = sym lines-nil
only (l ∷ ls) c = grind (
  arith,
  first-is,
  is_line,
  length-append,
  lines-cons,
  take-append_seam,
  drop-append_seam,
  rest_cut,
  only ls (rest_cut l ls c),
)

pub only_lines : (b : List ℕ) (ls : List (List ℕ)) → AreLines b ls → ls ≡ lines b
only_lines b ls h = only ls h.each ∙ ap lines h.joined

-- A held line has no LF, and its beginning has none after bytes were added.
use Rattle.mime_text.proofs.Words.{◌≡◌, ◌∙◌, ◌+◌, ◌<◌, ◌≤◌, ◌++◌, ℕ, List, None, length, take, ap, arith, nat_tests, take-append-le, length_before_feed, line_end_of, length_before_feed-le, length_before_feed-take}

-- bytes whose line has no end yet have no line feed
pub held-free : (b : List ℕ) → line_end_of b ≡ None → length_before_feed b ≡ length b
unfolding line_end_of
held-free b e = let le = length_before_feed-le b in grind (arith, nat_tests)

-- their beginning has none either, after bytes were added at the end
pub still-free : (old new x y : List ℕ) (k : ℕ) → new ++ x ≡ old ++ y → k ≤ length old → k ≤ length new
    → length_before_feed old ≡ length old → k ≤ length_before_feed new
still-free old new x y k e in_old in_new free =
    let fronts : take k new ≡ take k old = cc (take-append-le k new x in_new, take-append-le k old y in_old) in
    let same : length_before_feed (take k new) ≡ length_before_feed (take k old) = ap length_before_feed fronts in
    omega (arith, length_before_feed-take k new, length_before_feed-take k old)

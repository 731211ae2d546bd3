-- The end of a line whose beginning was searched before: the bytes that were searched have no LF.
use Rattle.mbox_cutter.proofs.Words.{◌≡◌, ◌+◌, ◌<◌, ◌≤◌, ◌==◌, ℕ, zero, suc, List, [], ◌∷◌, Some, None, length, take, drop, arith, min, nat_lt, length-take, length-drop, IsFirstByte, is_byte, length_before_feed, line_end_of}
use Rattle.mbox_cutter.proofs.FirstLines.{length_before_feed-le, length_before_feed-take, length_before_feed-found, length_before_feed-not_found}

before_feed-drop : (n : ℕ) (b : List ℕ) → n ≤ length_before_feed b → length_before_feed b
    ≡ n + length_before_feed (drop n b)
before_feed-drop zero b h = omega arith
before_feed-drop (suc n) [] h = absurd (omega arith)
before_feed-drop (suc n) (x ∷ xs) h = grind (arith, before_feed-drop n xs)

-- the part that was searched has no LF
front-free : (b : List ℕ) (n s : ℕ) → n ≡ min (length b) 65537 → s ≤ length_before_feed b → s ≤ 65536
    → s ≤ length_before_feed (take n b)
front-free b n s e free few = omega (arith, length_before_feed-take n b, length_before_feed-le b)

pub searched-fits : (b : List ℕ) (n s : ℕ) → n ≡ min (length b) 65537 → s ≤ length_before_feed b → s ≤ 65536
    → s ≤ length (take n b)
searched-fits b n s e free few = omega (arith, front-free b n s e free few, length_before_feed-le (take n b))

pub after-found : (b rest : List ℕ) (n s at : ℕ) → n ≡ min (length b) 65537 → s ≤ length_before_feed b → s ≤ 65536
    → rest ≡ drop s (take n b)
    → IsFirstByte (is_byte 10) rest (Some at) → Some (s + at + 1) ≡ line_end_of b
unfolding line_end_of
after-found b rest n s at e free few is h =
    grind (
      arith,
      before_feed-drop,
      front-free,
      length_before_feed-found,
      length_before_feed-take,
      length-drop,
      length-take,
      nat_lt,
    )

none-before : (b rest : List ℕ) (n s : ℕ) → n ≡ min (length b) 65537 → s ≤ length_before_feed b → s ≤ 65536 → rest
    ≡ drop s (take n b)
    → IsFirstByte (is_byte 10) rest None → min n (length_before_feed b) ≡ length (take n b)
none-before b rest n s e free few is h =
    let front : length_before_feed (take n b) ≡ s + length_before_feed (drop s (take n b)) =
    before_feed-drop s (take n b) (front-free b n s e free few) in
    grind (arith, length_before_feed-not_found, length_before_feed-take, length-drop, searched-fits)

pub after-full : (b rest : List ℕ) (n s : ℕ) → n ≡ min (length b) 65537 → s ≤ length_before_feed b → s ≤ 65536 → rest
    ≡ drop s (take n b)
    → IsFirstByte (is_byte 10) rest None → 65536 < length (take n b) → Some 65536 ≡ line_end_of b
unfolding line_end_of
after-full b rest n s e free few is h long =
    let r = none-before b rest n s e free few is h in
    grind arith

pub after-open : (b rest : List ℕ) (n s : ℕ) → n ≡ min (length b) 65537 → s ≤ length_before_feed b → s ≤ 65536 → rest
    ≡ drop s (take n b)
    → IsFirstByte (is_byte 10) rest None → length (take n b) ≤ 65536 → None ≡ line_end_of b
unfolding line_end_of
after-open b rest n s e free few is h short =
    let r = none-before b rest n s e free few is h in
    grind (arith, length-take, length_before_feed-le)

-- A closed message, without CR as its last byte, is still a message: its last line gets an LF if it has none, and an
-- empty line follows it.
use Rattle.mail_answer.proofs.Words.{◌≡◌, ◌∙◌, ℕ, ◌+◌, ◌<◌, Bool, true, false, cond, ◌||◌, nat_eq, List, [], ◌∷◌, ◌++◌, length, take, drop, refl, ap, sym, arith, append_assoc, append-nil, length-append, concat, take-append_seam, drop-append_seam, nat_tests, lines, is_empty, first_length, length_before_feed, IsLine, AreCut, is_separator, length_before_feed-append_out, length_before_feed-le, first_length-le, lines-cons, feed, has_feed, next_text, after_next, ends_in_return, closed_text}
use Rattle.std.proofs.lemmas.List.{length-take-le}
use Rattle.mail_answer.proofs.OutputLaws.ClosedLemmas.{closed_more, cr_line, has_feed-is, one_line}
use Rattle.mail_answer.proofs.OutputLaws.MessageLines.{StartsNowhere, may_after, lines-concat}
use Rattle.mail_answer.proofs.OutputLaws.Separated.{separator-feed, return-alone, return-after, feed_is_empty}

-- the first line, and the lines after it, once they are closed
abbrev pub closed_first : List ℕ → List (List ℕ) → List ℕ
closed_first l [] = cond (is_empty l) l (cond (has_feed l) l (l ++ feed))
closed_first l (m ∷ ls) = l

abbrev pub closed_rest : List ℕ → List (List ℕ) → List (List ℕ)
closed_rest l [] = cond (is_empty l) [] (feed ∷ [])
closed_rest l (m ∷ ls) = closed_first m ls ∷ closed_rest m ls

is_line : (l : List ℕ) (ls : List (List ℕ)) → AreCut (l ∷ ls) → IsLine l
is_line = grind arith

first-is : (l : List ℕ) (ls : List (List ℕ)) → AreCut (l ∷ ls) → first_length (l ++ concat ls) ≡ length l
first-is l ls c =
    let b = l ++ concat ls in
    let some = (is_line l _ c).some in
    let long = length-append l (concat ls) in
    let e = sym (lines-concat (l ∷ ls) c)
    ∙ lines-cons b (omega arith) in
    let head : l ≡ take (first_length b) b = cc e in
    sym (length-take-le (first_length b) b (first_length-le b)) ∙ sym (ap length head)

-- ---- the bytes

text-last : (l : List ℕ) → IsLine l → ends_in_return l ≡ false → closed_text (l ++ [])
    ≡ closed_first l [] ++ concat (closed_rest l [])
text-last l c other =
    let first = ap first_length (sym (append-nil l)) ∙ first-is l [] c in
    ap closed_text (append-nil l) ∙ one_line l c.some first
    ∙ parts _ _ _ (return-alone l other)
  where
    parts : (v w r : Bool) → r ≡ false → l ++ cond v [] (cond (w || r) feed (feed ++ feed))
        ≡ cond v l (cond w l (l ++ feed)) ++ concat (cond v [] (feed ∷ []))
    parts true w r e = refl
    parts false true r e = refl
    parts false false r e = rw e (sym (append_assoc l feed feed))

pub text-closed : (l : List ℕ) (ls : List (List ℕ)) → AreCut (l ∷ ls) → ends_in_return (concat (l ∷ ls)) ≡ false
    → closed_text (concat (l ∷ ls)) ≡ concat (closed_first l ls ∷ closed_rest l ls)
text-closed l [] c other = text-last l c (ap ends_in_return (sym (append-nil l)) ∙ other)
text-closed l (m ∷ ls) c other =
    let rest : List ℕ = m ++ concat ls in
    let b : List ℕ = l ++ rest in
    let some : 0 < length rest = omega (arith, (is_line m ls c.2).some, length-append m (concat ls)) in
    let long : length b ≡ length l + length rest = length-append l rest in
    let first : first_length b ≡ length l = first-is l (m ∷ ls) c in
    let after : after_next b ≡ rest = ap (λ (n : ℕ). drop n b) first ∙ drop-append_seam l rest in
    let front : take (first_length b) b ≡ l = ap (λ (n : ℕ). take n b) first ∙ take-append_seam l rest in
    let not_last : nat_eq (first_length b) (length b) ≡ false = grind (arith, nat_tests) in
    let next : next_text b ≡ l = rw (not_last, front) (append-nil l) in
    closed_more b (omega (arith, ap length after))
    ∙ ap (λ (t : List ℕ). t ++ closed_text (after_next b)) next
    ∙ ap (λ (t : List ℕ). l ++ closed_text t) after
    ∙ ap (λ (t : List ℕ). l ++ t) (text-closed m ls c.2 (sym (return-after l rest some) ∙ other))

-- ---- the lines

feed-line : IsLine feed
feed-line = grind arith

line-feed : (l : List ℕ) → IsLine l → length_before_feed l ≡ length l → IsLine (l ++ feed)
line-feed = grind (arith, length_before_feed-append_out, length-append)

no-feed : (l : List ℕ) → has_feed l ≡ false → length_before_feed l ≡ length l
no-feed = grind (arith, length_before_feed-le, has_feed-is, nat_tests)

some-feed : (l : List ℕ) → has_feed l ≡ true → length_before_feed l ≡ length l → ⊥
some-feed = grind (arith, has_feed-is, nat_tests)

before-same : (l : List ℕ) (ls : List (List ℕ)) → length_before_feed (closed_first l ls) ≡ length_before_feed l
before-same = grind (arith, no-feed, length_before_feed-append_out)

pub cut-closed : (l : List ℕ) (ls : List (List ℕ)) → AreCut (l ∷ ls) → AreCut (closed_first l ls ∷ closed_rest l ls)
cut-closed l [] c = grind (
  arith,
  some-feed,
  feed-line,
  no-feed,
  length_before_feed-append_out,
  length-append,
  line-feed,
)
cut-closed l (m ∷ ls) c = grind (arith, before-same, cut-closed m ls c.2)

-- ---- where messages start

module _ (l : List ℕ) (some : 0 < length l) (other : ends_in_return l ≡ false) where
  last-separates : (v w : Bool) → has_feed l ≡ w → is_separator (cond v l (cond w l (l ++ feed))) ≡ is_separator l
  last-separates = grind (arith, separator-feed)

  last-empty : (v w : Bool) → is_empty l ≡ v → is_empty (cond v l (cond w l (l ++ feed))) ≡ is_empty l
  last-empty = grind (arith, cr_line, return-alone)

-- what is assumed of all bytes is true of the last line
last-no : (l : List ℕ) → ends_in_return (l ++ []) ≡ false → ends_in_return l ≡ false
last-no l other = ap ends_in_return (sym (append-nil l)) ∙ other

rest-no : (l m : List ℕ) (ls : List (List ℕ)) → AreCut (l ∷ m ∷ ls) → ends_in_return (concat (l ∷ m ∷ ls)) ≡ false
    → ends_in_return (concat (m ∷ ls)) ≡ false
rest-no = grind (arith, is_line, length-append, return-after)

pub separator-same : (l : List ℕ) (ls : List (List ℕ)) → AreCut (l ∷ ls) → ends_in_return (concat (l ∷ ls)) ≡ false
    → is_separator (closed_first l ls) ≡ is_separator l
separator-same = grind (arith, last-separates, last-no)

pub empty-same : (l : List ℕ) (ls : List (List ℕ)) → AreCut (l ∷ ls) → ends_in_return (concat (l ∷ ls)) ≡ false
    → is_empty (closed_first l ls) ≡ is_empty l
empty-same = grind (arith, last-empty, last-no)

-- no message starts after the first line
pub inside-closed : (l : List ℕ) (ls : List (List ℕ)) → AreCut (l ∷ ls) → ends_in_return (concat (l ∷ ls)) ≡ false
    → StartsNowhere (is_empty l) ls → StartsNowhere (is_empty (closed_first l ls)) (closed_rest l ls)
inside-closed l [] c other h = rw (empty-same l _ c other) (go _ refl)
  where
    go : (v : Bool) → is_empty l ≡ v → StartsNowhere v (cond v [] (feed ∷ []))
    go true e = tt
    go false e = (refl, tt)
inside-closed l (m ∷ ls) c other h = grind (arith, rest-no, separator-same, inside-closed m ls c.2)

-- the last line is empty
pub is-closed : (l : List ℕ) (ls : List (List ℕ)) → may_after (is_empty (closed_first l ls)) (closed_rest l ls) ≡ true
is-closed l [] = grind (arith, may_after, feed_is_empty)
is-closed l (m ∷ ls) = is-closed m ls

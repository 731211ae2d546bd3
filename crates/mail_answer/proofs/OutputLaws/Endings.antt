-- The ending of bytes after one more byte is known from the ending before it, by the cases of the last line.
use Rattle.mail_answer.proofs.Words.{◌≡◌, ◌∙◌, ℕ, zero, suc, ◌+◌, ◌<◌, ◌≤◌, Bool, true, false, cond, ◌||◌, ◌==◌, nat_lt, List, [], ◌∷◌, ◌++◌, length, refl, ap, sym, append_assoc, append-nil, arith, inl, inr, cases_lt, nat_tests, drop-append-le, drop_all, is_empty, lines, first_length, length_before_feed, line_end-more, first_length-le, first_length-positive, length_before_feed-le, length_before_feed-append_out, lines-cons, lines-nil, feed, has_feed, feeds_after, after_next, ending_of_line, ending_of_bytes, line_of, with_byte, feeds_of, last_line_of, Ending, Return, Open}
use Rattle.std.specs.Str.{bytes_eq}
use Rattle.std.proofs.lemmas.List.{length-append, length-drop, take_all}
use Rattle.mail_answer.proofs.OutputLaws.ClosedLemmas.{last_after, last-cons, whole_end, whole_feed, has_feed-is, cr_line}

-- ---- single lines

pub no_lines : ending_of_bytes [] ≡ Open 0
unfolding lines is_empty
no_lines = refl

one_byte : (b : ℕ) → ending_of_line (b ∷ []) ≡ line_of b
unfolding is_empty
one_byte = grind arith

pub lines_single : (b : List ℕ) → 0 < length b → first_length b ≡ length b → lines b ≡ b ∷ []
lines_single = grind (arith, lines-cons, drop_all, lines-nil, take_all)

single_ending : (b : List ℕ) → 0 < length b → first_length b ≡ length b → ending_of_bytes b ≡ ending_of_line b
single_ending = grind (arith, lines_single)

one_length : (b : ℕ) → first_length (b ∷ []) ≡ 1
unfolding first_length
one_length = grind arith

one_line_of : (b : ℕ) → ending_of_bytes (b ∷ []) ≡ line_of b
one_line_of b = single_ending _ (omega arith) (one_length b) ∙ one_byte b

-- a line that the next byte isn't part of
cut_after : (b x : List ℕ) → 0 < length b → 0 < length x → length b ≡ first_length (b ++ x)
    → last_line_of (lines (b ++ x))
    ≡ last_line_of (lines x)
cut_after = grind (arith, length-append, lines-cons, drop-append-le, drop_all, last-cons)

not_empty : (b : List ℕ) → has_feed b ≡ false → is_empty b ≡ false
unfolding is_empty
not_empty [] none = refl
not_empty (x ∷ []) none = grind arith
not_empty (x ∷ y ∷ []) none = grind arith
not_empty (x ∷ y ∷ z ∷ rest) none = grind arith

-- CR alone is one byte
return_long : (b : List ℕ) → bytes_eq b (13 ∷ []) ≡ true → length b ≡ 1
return_long [] is = absurd (cc is)
return_long (x ∷ []) is = refl
return_long (x ∷ y ∷ rest) is = grind arith

not_return : (b : List ℕ) → 1 < length b → bytes_eq b (13 ∷ []) ≡ false
not_return [] long = absurd (omega arith)
not_return (x ∷ []) long = absurd (omega arith)
not_return (x ∷ y ∷ rest) long = grind arith

has_feed-append : (a b : List ℕ) → has_feed (a ++ b) ≡ (has_feed a || has_feed b)
has_feed-append [] b = refl
has_feed-append (x ∷ xs) b = grind (arith, has_feed-append xs b)

-- ---- one more byte

-- a line without LF
open_ending : (b : List ℕ) → has_feed b ≡ false → ending_of_line b
    ≡ cond (bytes_eq b (13 ∷ [])) Return (Open (length b))
open_ending b none = rw (not_empty b none, none) refl

feed_more : (b : List ℕ) → 0 < length b → first_length b ≡ length b → has_feed b ≡ false → ending_of_bytes (b ++ feed)
    ≡ with_byte (ending_of_line b) 10
feed_more = grind (
  arith,
  length-append,
  has_feed-append,
  single_ending,
  whole_feed,
  has_feed-is,
  cr_line,
  open_ending,
  nat_tests,
)

at_most : (b : List ℕ) → first_length b ≡ length b → length_before_feed b ≡ length b → length b ≤ 65536
unfolding first_length
at_most = grind (arith, nat_tests)

whole_line : (b : List ℕ) → length_before_feed b ≡ length b → length b ≤ 65536 → first_length b ≡ length b
unfolding first_length
whole_line = grind (arith, nat_tests)

cut_line : (b : List ℕ) → 65536 < length_before_feed b → first_length b ≡ 65536
unfolding first_length
cut_line = grind (arith, nat_tests)

byte_more : (b : List ℕ) (x : ℕ) → 0 < length b → first_length b ≡ length b → has_feed b ≡ false → (x == 10) ≡ false
    → ending_of_bytes (b ++ x ∷ []) ≡ with_byte (ending_of_line b) x
byte_more b x h e none other =
    elim (cases_lt (length b) 65536) [
      | inl short ↦
          single_ending _ (omega (arith, long)) (whole (omega arith)) ∙ open_ending _ without
          ∙ ap (λ v. cond v Return (Open (length (b ++ x ∷ []))))
          (not_return (b ++ x ∷ []) (omega (arith, long, h)))
          ∙ ap Open long ∙ rw (open_ending b none) (parts _ refl short)
      | inr full ↦
          ap ending_of_line (cut_after b _ h (omega arith) (cut (omega arith))) ∙ one_line_of x
          ∙ rw (open_ending b none, not_return b (omega arith)) (begins (omega arith))
    ]
  where
    long : length (b ++ x ∷ []) ≡ length b + 1
    long = length-append b (x ∷ [])

    free : length_before_feed b ≡ length b
    free = let le = length_before_feed-le b
        in let is = sym (has_feed-is b) ∙ none
        in grind (arith, nat_tests)

    without : has_feed (b ++ x ∷ []) ≡ false
    without = has_feed-append b _ ∙ rw (none, other) refl

    free_more : length_before_feed (b ++ x ∷ []) ≡ length b + 1
    free_more = length_before_feed-append_out b _ free ∙ ap (λ v. length b + cond v 0 1) other

    most : length b ≤ 65536
    most = at_most b e free

    whole : length b < 65536 → first_length (b ++ x ∷ []) ≡ length (b ++ x ∷ [])
    whole short = whole_line _ (omega (arith, free_more, long)) (omega (arith, long, short))

    cut : 65536 ≤ length b → length b ≡ first_length (b ++ x ∷ [])
    cut full = sym (cut_line _ (omega (arith, free_more, full)) ∙ omega (arith, full, most))

    parts : (v : Bool) → bytes_eq b (13 ∷ []) ≡ v → length b < 65536 → Open (length b + 1)
        ≡ with_byte (cond v Return (Open (length b))) x
    parts true is short = let one = return_long b is in rw (one, other) refl
    parts false is short =
        let some : (length b == 0) ≡ false = grind (arith, nat_tests) in
        let fits : nat_lt (length b) 65536 ≡ true = grind (arith, nat_tests) in
        rw (some, other, fits) refl

    begins : 65536 ≤ length b → line_of x ≡ with_byte (Open (length b)) x
    begins full =
        grind arith

-- a line that has its LF
ended_more : (b : List ℕ) (x : ℕ) → 0 < length b → first_length b ≡ length b → has_feed b ≡ true
    → ending_of_bytes (b ++ x ∷ []) ≡ with_byte (ending_of_line b) x
ended_more = grind (arith, line_end-more, whole_end, has_feed-is, cut_after, one_line_of)

single_more : (b : List ℕ) (x : ℕ) → 0 < length b → first_length b ≡ length b → ending_of_bytes (b ++ x ∷ [])
    ≡ with_byte (ending_of_bytes b) x
single_more = grind (arith, single_ending, ended_more, feed_more, byte_more)

ending_more-from : (most : ℕ) (b : List ℕ) (x : ℕ) → length b ≤ most → ending_of_bytes (b ++ x ∷ [])
    ≡ with_byte (ending_of_bytes b) x
ending_more-from most [] x le = one_line_of x ∙ ap (λ (a : Ending). with_byte a x) (sym no_lines)
ending_more-from zero (b ∷ bs) x le = absurd (omega arith)
ending_more-from (suc most) (b ∷ bs) x le =
    let all : List ℕ = b ∷ bs in
    let some : 0 < first_length all = first_length-positive all (omega arith) in
    let within : first_length all ≤ length all = first_length-le all in
    elim (cases_lt (first_length all) (length all)) [
      | inl more ↦
          let rest : List ℕ = after_next all in
          let same : ending_of_bytes all ≡ ending_of_bytes rest = ap ending_of_bytes (sym (append-nil all))
          ∙ ap ending_of_line (last_after all [] more) ∙ ap ending_of_bytes (append-nil rest) in
          ap ending_of_line (last_after all (x ∷ []) more)
          ∙ ending_more-from most rest x (omega (arith, length-drop (first_length all) all, some, le))
          ∙ ap (λ (a : Ending). with_byte a x) (sym same)
      | inr last ↦ single_more all x (omega arith) (omega arith)
    ]

pub ending_more : (b : List ℕ) (x : ℕ) → ending_of_bytes (b ++ x ∷ []) ≡ with_byte (ending_of_bytes b) x
ending_more b x = ending_more-from (length b) b x (omega arith)

-- ---- more bytes

with_bytes : Ending → List ℕ → Ending
with_bytes e [] = e
with_bytes e (x ∷ xs) = with_bytes (with_byte e x) xs

endings_more : (b more : List ℕ) → ending_of_bytes (b ++ more) ≡ with_bytes (ending_of_bytes b) more
unfolding with_bytes
endings_more b [] = ap ending_of_bytes (append-nil b)
endings_more b (x ∷ xs) =
    ap ending_of_bytes (sym (append_assoc b (x ∷ []) xs)) ∙ endings_more (b ++ x ∷ []) xs
    ∙ ap (λ (e : Ending). with_bytes e xs) (ending_more b x)

-- what comes before an LF makes no difference to the ending of the bytes after it
pub ending_after : (b rest : List ℕ) → 0 < length rest → ending_of_bytes (b ++ 10 ∷ rest) ≡ ending_of_bytes rest
unfolding with_bytes
ending_after b [] some = absurd (omega arith)
ending_after b (x ∷ xs) some =
    endings_more b (10 ∷ x ∷ xs) ∙ ap (λ (e : Ending). with_bytes e xs) (begins (ending_of_bytes b))
    ∙ sym (endings_more [] (x ∷ xs) ∙ ap (λ (e : Ending). with_bytes (with_byte e x) xs) no_lines)
  where
    begins : (e : Ending) → with_byte (with_byte e 10) x ≡ line_of x
    begins e = grind (arith, nat_tests)

-- ---- what closes the last line

pub feeds_told : (line : List ℕ) → feeds_of (ending_of_line line) ≡ feeds_after line
feeds_told = grind arith

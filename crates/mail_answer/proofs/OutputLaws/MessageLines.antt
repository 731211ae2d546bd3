-- Messages with a closing line that follow one another are cut into these messages, line by line.
use Rattle.mail_answer.proofs.Words.{◌≡◌, ◌∙◌, ℕ, ◌+◌, Bool, true, false, ◌&&◌, List, [], ◌∷◌, ◌++◌, Some, length, map, refl, ap, sym, arith, append-nil, length-append, concat, concat-append, Message, spans_of, messages, messages_from, marked_lines, grouped_lines, is_refused, total, span_length, lines, is_empty, length_before_feed, AreCut, is_separator, places_from}
use Rattle.mbox_cutter.proofs.OnlyLines.{only_lines}

-- each element has the property
abbrev pub Each : {A : Type 0} → (A → Type 0) → List A → Type 0
Each P [] = Unit {0}
Each P (x ∷ xs) = P x × Each P xs

-- none of these lines starts a message; the flag says whether a message may start at the first
abbrev pub StartsNowhere : Bool → List (List ℕ) → Type 0
StartsNowhere may [] = Unit {0}
StartsNowhere may (l ∷ ls) = ((may && is_separator l) ≡ false) × StartsNowhere (is_empty l) ls

-- whether a message may start after these lines
abbrev pub may_after : Bool → List (List ℕ) → Bool
may_after may [] = may
may_after may (l ∷ ls) = may_after (is_empty l) ls

-- a line and the lines after it
abbrev pub Group : Type 0
Group = List ℕ × List (List ℕ)

-- a message starts at the first line, and none after it
pub record IsMessage (g : Group) : Type 0 where
  pub starts : is_separator g.0 ≡ true
  pub inside : StartsNowhere (is_empty g.0) g.1

-- the last line is empty
abbrev pub IsClosed : Group → Type 0
IsClosed g = may_after (is_empty g.0) g.1 ≡ true

abbrev pub lines_of : Group → List (List ℕ)
lines_of g = g.0 ∷ g.1

abbrev pub all_lines : List Group → List (List ℕ)
all_lines [] = []
all_lines (g ∷ gs) = lines_of g ++ all_lines gs

abbrev pub text_of : Group → List ℕ
text_of g = concat (lines_of g)

grouped-after : (may : Bool) (ls rest : List (List ℕ)) → StartsNowhere may ls
    → grouped_lines (marked_lines may (ls ++ rest)) ≡ (
      ls ++ (grouped_lines (marked_lines (may_after may ls) rest)).0,
      (grouped_lines (marked_lines (may_after may ls) rest)).1,
    )
grouped-after may [] rest h = refl
grouped-after may (l ∷ ls) rest h = grind (arith, grouped-after (is_empty l) ls rest h.1)

-- messages with a closing line are grouped again as they are
grouped-messages : (gs : List Group) → Each IsMessage gs → Each IsClosed gs
    → grouped_lines (marked_lines true (all_lines gs))
    ≡ ([], gs)
grouped-messages [] is closed = refl
grouped-messages (g ∷ gs) is closed = grind (arith, grouped-after, append-nil, grouped-messages gs is.1 closed.1)

-- a separator isn't an empty line
pub separator-some : (l : List ℕ) → is_separator l ≡ true → is_empty l ≡ false
unfolding is_separator is_empty
separator-some [] h = absurd (cc h)
separator-some (x ∷ xs) h = grind arith

accepted : (gs : List Group) → Each IsMessage gs → is_refused (marked_lines true (all_lines gs)) ≡ false
accepted [] is = refl
accepted (g ∷ gs) is = rw (separator-some _ is.0.starts, is.0.starts) refl

pub total-length : (ls : List (List ℕ)) → total ls ≡ length (concat ls)
total-length [] = refl
total-length (l ∷ ls) = ap (λ n. length l + n) (total-length ls) ∙ sym (length-append l (concat ls))

-- the span of a message
abbrev pub span_of : Message → ℕ × ℕ
span_of m = (m.offset, span_length m)

spans : (offset : ℕ) (gs : List Group) → map span_of (messages_from offset gs) ≡ places_from offset (map text_of gs)
spans offset [] = refl
spans offset (g ∷ gs) =
    let n : length g.0 + total g.1 ≡ length (text_of g) = total-length (lines_of g) in
    grind (arith, spans (offset + length (text_of g)) gs)

joined : (gs : List Group) → concat (all_lines gs) ≡ concat (map text_of gs)
joined [] = refl
joined (g ∷ gs) = concat-append (lines_of g) (all_lines gs) ∙ ap (λ rest. text_of g ++ rest) (joined gs)

pub lines-concat : (ls : List (List ℕ)) → AreCut ls → lines (concat ls) ≡ ls
lines-concat ls c = sym (only_lines _ _ (record { joined = refl; each = c }))

-- an empty line has its LF
empty-feed : (l : List ℕ) → is_empty l ≡ true → length_before_feed l ≡ length l → ⊥
unfolding is_empty
empty-feed [] e n = absurd (cc e)
empty-feed (x ∷ []) e n = grind arith
empty-feed (x ∷ y ∷ []) e n = grind arith
empty-feed (x ∷ y ∷ z ∷ xs) e n = grind arith

-- the lines after an empty one
after-closed : (l : List ℕ) (ls ms : List (List ℕ)) → AreCut (l ∷ ls) → may_after (is_empty l) ls ≡ true → AreCut ms
    → AreCut (l ∷ (ls ++ ms))
after-closed l [] [] c closed d = c
after-closed l [] (m ∷ ms) c closed d = (c, λ e. absurd (empty-feed l closed e), d)
after-closed l (k ∷ ls) ms c closed d = (c.0, c.1, after-closed k ls ms c.2 closed d)

all-cut : (gs : List Group) → Each IsClosed gs → Each (λ g. AreCut (lines_of g)) gs → AreCut (all_lines gs)
all-cut [] closed each = tt
all-cut (g ∷ gs) closed each = grind (arith, after-closed, all-cut gs closed.1 each.1)

-- messages with a closing line, joined, are cut into these messages
pub messages-cut : (gs : List Group) → Each IsMessage gs → Each IsClosed gs → Each (λ g. AreCut (lines_of g)) gs
    → spans_of (concat (map text_of gs)) ≡ Some (places_from 0 (map text_of gs))
unfolding messages
messages-cut gs is closed each =
    let all : lines (concat (map text_of gs)) ≡ all_lines gs = ap lines (sym (joined gs))
    ∙ lines-concat _ (all-cut _ closed each) in
    grind (arith, accepted, grouped-messages, spans)

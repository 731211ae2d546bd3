-- The fields of lines with one more line.
use Rattle.header_text.proofs.Words.{get_or, take, drop, take_rest, eq-eqb, ◌-◌, ◌≡◌, ◌∙◌, ◌+◌, ◌≤◌, ◌<◌, ◌++◌, ℕ, Bool, true, false, List, [], ◌∷◌, Option, Some, None, length, refl, arith, length-append, append_assoc, append-nil, is_some, HeaderField, is_continuation, field_of_line, with_continuations, continued_and_fields, fields_in, fields_size, field_of_name, is_field_name_byte, split_while, after_blanks, onto_last, is_field_open_after, is_field_open_after_lines, fields_with}
use Rattle.std.specs.Option.{option_to_list}
use Rattle.header_text.proofs.Fronts.{split_while-joined}

-- the field with one more line at the end of its body
abbrev grown : Option HeaderField → List ℕ → Option HeaderField
grown None l = None
grown (Some f) l = Some (record { name = f.name; body = f.body ++ l })

abbrev whole : Option HeaderField → List (List ℕ) → List HeaderField
whole o ls = let rest = continued_and_fields ls in with_continuations o rest.0 rest.1

-- continuation bytes before what follows a field
with_continuations-grown : (o : Option HeaderField) (l more : List ℕ) (later : List HeaderField)
    → with_continuations o (l ++ more) later ≡ with_continuations (grown o l) more later
with_continuations-grown o l more later = grind (arith, append_assoc)

whole-cons_yes : (o : Option HeaderField) (l : List ℕ) (ls : List (List ℕ)) → is_continuation l ≡ true
    → whole o (l ∷ ls) ≡ whole (grown o l) ls
whole-cons_yes o l ls e = grind (arith, with_continuations-grown)

is_some-grown : (o : Option HeaderField) (l : List ℕ) → is_some (grown o l) ≡ is_some o
is_some-grown o l = grind arith

-- a last line that isn't a continuation
whole-push_no : (o : Option HeaderField) (ls : List (List ℕ)) (l : List ℕ) → is_continuation l ≡ false
    → whole o (ls ++ l ∷ []) ≡ whole o ls ++ whole (field_of_line l) []
whole-push_no o [] l e = grind arith
whole-push_no o (k ∷ ks) l e = go (λ p. whole-push_no p ks l e) (is_continuation k) refl
  where
    go : ((p : Option HeaderField) → whole p (ks ++ l ∷ []) ≡ whole p ks ++ whole (field_of_line l) []) → (t : Bool)
        → is_continuation k ≡ t
        → whole o (k ∷ (ks ++ l ∷ [])) ≡ whole o (k ∷ ks) ++ whole (field_of_line l) []
    go h t h2 = grind (arith, whole-cons_yes)

-- a last line that is a continuation: it goes to the last field if that may be continued, and otherwise it is skipped
record Continued (o : Option HeaderField) (ls : List (List ℕ)) (l : List ℕ) (opened : Bool) : Type 0 where
  goes : opened ≡ true → (whole o (ls ++ l ∷ []) ≡ onto_last l (whole o ls)) × (0 < length (whole o ls))
  skips : opened ≡ false → whole o (ls ++ l ∷ []) ≡ whole o ls

continued : (o : Option HeaderField) (ls : List (List ℕ)) (l : List ℕ) → is_continuation l ≡ true
    → Continued o ls l (is_field_open_after_lines (is_some o) ls)
continued None [] l e = grind arith
continued (Some f) [] l e = grind (arith, append-nil)
continued o (k ∷ ks) l e = go (λ p. continued p ks l e) (is_continuation k) refl
  where
    go : ((p : Option HeaderField) → Continued p ks l (is_field_open_after_lines (is_some p) ks)) → (t : Bool)
        → is_continuation k
        ≡ t
        → Continued o (k ∷ ks) l (is_field_open_after_lines (is_field_open_after (is_some o) k) ks)
    go h t h2 = grind (arith, is_some-grown, whole-cons_yes)

-- one more line
pub fields_in-push : (ls : List (List ℕ)) (l : List ℕ) → fields_in (ls ++ l ∷ [])
    ≡ fields_with (is_field_open_after_lines false ls) l (fields_in ls)
fields_in-push ls l = go (is_continuation l) refl (is_field_open_after_lines false ls) refl
  where
    last : (o : Option HeaderField) → whole o [] ≡ option_to_list o
    last o = grind (arith, append-nil)

    go : (t : Bool) → is_continuation l ≡ t → (u : Bool) → is_field_open_after_lines false ls ≡ u
        → fields_in (ls ++ l ∷ [])
        ≡ fields_with (is_field_open_after_lines false ls) l (fields_in ls)
    go false e u f = whole-push_no None ls l e
        ∙ rw e (cc (last (field_of_line l)))
    go true e true f = cc (((continued None ls l e).goes f).0)
    go true e false f = cc ((continued None ls l e).skips f)

pub is_open_after-push : (b : Bool) (ls : List (List ℕ)) (l : List ℕ) → is_field_open_after_lines b (ls ++ l ∷ [])
    ≡ is_field_open_after (is_field_open_after_lines b ls) l
is_open_after-push b [] l = refl
is_open_after-push b (k ∷ ks) l = is_open_after-push (is_field_open_after b k) ks l

-- ---- how many bytes fields have

fields_size-append : (fs gs : List HeaderField) → fields_size (fs ++ gs) ≡ fields_size fs + fields_size gs
fields_size-append [] gs = omega arith
fields_size-append (f ∷ fs) gs = let later = fields_size-append fs gs in omega arith

fields_size-onto_last : (l : List ℕ) (fs : List HeaderField) → fields_size (onto_last l fs) ≤ fields_size fs + length l
fields_size-onto_last l [] = omega arith
fields_size-onto_last l (f ∷ []) = omega (arith, length-append f.body l)
fields_size-onto_last l (f ∷ g ∷ fs) = let later = fields_size-onto_last l (g ∷ fs) in omega arith

pub length-after_blanks : (bs : List ℕ) → length (after_blanks bs) ≤ length bs
length-after_blanks [] = omega arith
length-after_blanks (b ∷ bs) = grind (arith, length-after_blanks bs)

named-size : (name rest : List ℕ) → fields_size (option_to_list (field_of_name name rest)) ≤ length name + length rest
named-size name rest = grind arith

field_of_line-size : (l : List ℕ) → fields_size (option_to_list (field_of_line l)) ≤ length l
field_of_line-size l =
    let parts = split_while is_field_name_byte l in
    let sizes : length parts.0 + length parts.1 ≡ length l =
    cc (length-append parts.0 parts.1, split_while-joined is_field_name_byte l) in
    omega (arith, named-size parts.0 (after_blanks parts.1), length-after_blanks parts.1)

-- a name that isn't empty, and a colon
pub named-begins : (name rest : List ℕ) → 0 < length name → 1 ≤ length rest → get_or rest 0 0 ≡ 0x3A
    → Some (record { name = name; body = take (length rest - 1) (drop 1 rest) }) ≡ field_of_name name rest
named-begins [] rest some one is = absurd (omega arith)
named-begins (b ∷ name) [] some one is = absurd (omega arith)
named-begins (b ∷ name) (c ∷ rest) some one is =
    rw (eq-eqb c 0x3A is, field_of_name) (cc (take_rest (c ∷ rest) 1))

-- a line adds no more bytes than it has
pub fields_size-with : (b : Bool) (l : List ℕ) (fs : List HeaderField)
    → fields_size (fields_with b l fs) ≤ fields_size fs + length l
fields_size-with b l fs = grind (
  arith,
  fields_size-append fs (option_to_list (field_of_line l)),
  field_of_line-size l,
  fields_size-onto_last l fs,
)

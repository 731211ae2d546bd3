-- The ids of a message's own header have at least one byte, and not too many for a key.
use Rattle.index_job.proofs.Words.{ℕ, ◌+◌, ◌-◌, ◌<◌, ◌≤◌, ◌++◌, Bool, List, [], ◌∷◌, length, map, drop, Option, IfSome, arith, length-append, slice_range, filter, flat_map, AllByRecursion, ltb-true, leb-true, length-take, length-drop, HeaderField, most_in_header, lines_before_empty, lines_within, header, field_of_line, with_continuations, continued_and_fields, fields_of, total, first_of, facts_of}
use Rattle.header_text.specs.Blanks.{after_blanks, split_while}
use Rattle.header_text.specs.Headers.{is_field_name_byte, field_of_name}
use Rattle.header_text.specs.Ids.{id_ranges, kept_ids, ids_of}
use Rattle.header_text.proofs.Fronts.{length-split_while}
use Rattle.header_text.proofs.HeaderLaws.HeaderLemmas.{length-after_blanks}
use Rattle.index_job.proofs.SoundTables.Folds.{IsKeyText}

-- ---- ids of a value

-- the id has at least one byte and at most this many
abbrev IsUpTo : ℕ → List ℕ → Type 0
IsUpTo most id = (0 < length id) × (length id ≤ most)

filter-fewer : (p : ℕ → Bool) (bs : List ℕ) → length (filter p bs) ≤ length bs
filter-fewer p [] = omega arith
filter-fewer p (b ∷ bs) = grind (arith, filter-fewer p bs)

kept-up-to : (most : ℕ) (texts : List (List ℕ)) → AllByRecursion (λ text. length text ≤ most) texts
    → AllByRecursion (IsUpTo most) (kept_ids texts)
kept-up-to _ [] _ = tt
kept-up-to most (text ∷ texts) all = grind (arith, ltb-true, filter-fewer, kept-up-to most texts all.1)

range-fewer : (bs : List ℕ) (from to : ℕ) → length (slice_range bs from to) ≤ length bs
range-fewer bs from to = omega (arith, length-take (to - from) (drop from bs), length-drop from bs)

ranges-fewer : (value : List ℕ) (rs : List (ℕ × ℕ))
    → AllByRecursion (λ text. length text ≤ length value) (map (λ (r : ℕ × ℕ). slice_range value r.0 r.1) rs)
ranges-fewer _ [] = tt
ranges-fewer value (r ∷ rs) = (range-fewer _ _ _, ranges-fewer value rs)

ids-up-to : (value : List ℕ) → AllByRecursion (IsUpTo (length value)) (ids_of value)
unfolding ids_of
ids-up-to value = kept-up-to (length value) (map _ _) (ranges-fewer value (id_ranges value))

-- ---- fields of a header

within-fewer : (room : ℕ) (ls : List (List ℕ)) → total (lines_within room ls) ≤ room
within-fewer _ [] = omega arith
within-fewer room (l ∷ ls) = grind (arith, leb-true, within-fewer (room - length l) ls)

-- no body has more bytes
abbrev AreBodies : ℕ → List HeaderField → Type 0
AreBodies most fields = AllByRecursion (λ (f : HeaderField). length f.body ≤ most) fields

continued-bodies : (most : ℕ) (o : Option HeaderField) (more : List ℕ) (later : List HeaderField)
    → IfSome o (λ f. length f.body + length more ≤ most) → AreBodies most later
    → AreBodies most (with_continuations o more later)
continued-bodies _ o _ _ h h2 = grind (arith, length-append)

named-body : (name rest : List ℕ) → IfSome (field_of_name name rest) (λ f. length f.body ≤ length rest)
named-body _ _ = grind arith

line-body : (most : ℕ) (l more : List ℕ) → length l + length more ≤ most
    → IfSome (field_of_line l) (λ f. length f.body + length more ≤ most)
line-body most l more fits =
    let parts = split_while is_field_name_byte l in
    go (length (after_blanks parts.1)) (omega
    (arith, length-after_blanks parts.1, length-split_while is_field_name_byte l)) (field_of_line l)
    (named-body parts.0 (after_blanks parts.1))
  where
    go : (k : ℕ) → k ≤ length l → (o : Option HeaderField) → IfSome o (λ f. length f.body ≤ k)
        → IfSome o (λ f. length f.body + length more ≤ most)
    go k low o h = grind arith

-- the continuations at the front, and each body after them
bodies-within : (most : ℕ) (ls : List (List ℕ)) → total ls ≤ most → (length (continued_and_fields ls).0 ≤ total ls)
    × AreBodies most (continued_and_fields ls).1
bodies-within _ [] within = (omega arith, tt)
bodies-within most (l ∷ ls) within = grind
    (arith, length-append, continued-bodies, line-body, bodies-within most ls (omega arith))

header-bodies : (ls : List (List ℕ)) → AreBodies most_in_header (fields_of ls)
unfolding fields_of
header-bodies ls = (bodies-within most_in_header (header ls) (within-fewer _ (lines_before_empty ls))).1

-- ---- ids of a header

joined-all : {A : Type 0} (P : A → Type 0) (xs ys : List A) → AllByRecursion P xs → AllByRecursion P ys
    → AllByRecursion P (xs ++ ys)
joined-all P [] _ _ there = there
joined-all P (x ∷ xs) ys here there = (here.0, joined-all P xs ys here.1 there)

key-texts : (most : ℕ) (ids : List (List ℕ)) → most ≤ most_in_header → AllByRecursion (IsUpTo most) ids
    → AllByRecursion IsKeyText ids
key-texts _ [] _ _ = tt
key-texts most (id ∷ ids) small all = ((all.0.0, omega arith), key-texts most ids small all.1)

-- the ids of the fields whose names pass
named-ids : (p : HeaderField → Bool) (fields : List HeaderField) → AreBodies most_in_header fields
    → AllByRecursion IsKeyText (flat_map (λ (f : HeaderField). ids_of f.body) (filter p fields))
named-ids p [] _ = tt
named-ids p (f ∷ fields) all = grind (arith, joined-all, key-texts, ids-up-to, named-ids p fields all.1)

first-all : (ids : List (List ℕ)) → AllByRecursion IsKeyText ids → IfSome (first_of ids) IsKeyText
first-all _ h = grind arith

pub own-id-sized : (ls : List (List ℕ)) → IfSome (facts_of (fields_of ls)).own_id IsKeyText
unfolding facts_of
own-id-sized ls = first-all _ (named-ids _ _ (header-bodies _))

pub links-sized : (ls : List (List ℕ)) → AllByRecursion IsKeyText (facts_of (fields_of ls)).ids
unfolding facts_of
links-sized ls = named-ids _ _ (header-bodies _)

-- Sizes are read as their grammar says.
use Rattle.mail_query.proofs.Words.{◌≡◌, ℕ, ◌-◌, ◌<◌, List, [], ◌∷◌, ◌++◌, length, Option, Some, None, refl, sym, ◌∙◌, arith, length-append, ◌*◌, ◌≤◌, true, false, eqb, option_map, subst, ◌&&◌, IsLastAndRest, list_all, get_or-append_seam, slice_get-get_or, cond_some, option_and_then_some, last_byte, before_last_byte, factor_of, scaled_size, size_with, size_of, size_limit, low_of, high_of, sizes_between, sizes_of, is_ascii_digit, leb-true, le-leb, and_parts, and_from, or_from, Query, Size, texts_around, IsNumber, IsSize, InBytes, InUnits, IsLow, FromZero, FromSize, IsHigh, Unbounded, ToSize, IsSizes, Between}
use Rattle.std.specs.Str.Parse.{digits_value}
use Rattle.mail_query.proofs.PieceLemmas.{last_of, before_last, Free, cut_at}
use Rattle.mail_query.proofs.MairixLaws.SignLemmas.{any-append, cut_parts, map_some}

last_place : (front : List ℕ) (letter : ℕ) → length (front ++ letter ∷ []) - 1 ≡ length front
last_place front letter = omega (arith, length-append front (letter ∷ []))

last_byte-last : (front : List ℕ) (letter : ℕ) → last_byte (front ++ letter ∷ []) ≡ Some letter
last_byte-last front letter =
    let below : length front < length (front ++ letter ∷ []) = omega (arith, length-append front (letter ∷ [])) in
    cc (
      last_place front letter,
      slice_get-get_or (front ++ letter ∷ []) (length front) 0 below,
      get_or-append_seam front letter [] 0,
    )

before_last_byte-last : (front : List ℕ) (letter : ℕ) → before_last_byte (front ++ letter ∷ []) ≡ front
before_last_byte-last front letter = before_last front letter

with_last : (front : List ℕ) (letter : ℕ) (o : Option ℕ) → factor_of letter ≡ o → size_of (front ++ letter ∷ [])
    ≡ size_with o (front ++ letter ∷ [])
unfolding size_of
with_last front letter o e =
    grind (arith, last_byte-last)

pub size_of-letter : (text front : List ℕ) (letter factor : ℕ) → IsLastAndRest text letter front → factor_of letter
    ≡ Some factor → size_of text ≡ scaled_size factor front
size_of-letter text front letter factor h e =
    cc (h.0, with_last front letter (Some factor) e, before_last_byte-last front letter)

pub size_of-digits : (text front : List ℕ) (letter : ℕ) → IsLastAndRest text letter front → factor_of letter ≡ None
    → size_of text ≡ scaled_size 1 text
size_of-digits text front letter h e = cc (h.0, with_last front letter None e)

pub size_of-nothing : (text : List ℕ) → length text ≡ 0 → size_of text ≡ scaled_size 1 text
unfolding size_of
size_of-nothing text h = grind arith

-- ---- the grammar

abbrev worth : List ℕ → ℕ
worth digits = digits_value 10 digits

-- ---- numbers

record Scaled (factor : ℕ) (digits : List ℕ) (size : ℕ) : Type 0 where
  number : IsNumber digits
  small : worth digits * factor ≤ size_limit
  size_is : worth digits * factor ≡ size

scaled_is : (factor : ℕ) (digits : List ℕ) (size : ℕ) → scaled_size factor digits ≡ Some size
    → Scaled factor digits size
scaled_is factor digits size e = grind (arith, cond_some, and_parts, leb-true)

number_scaled : (factor : ℕ) (digits : List ℕ) → IsNumber digits → worth digits * factor ≤ size_limit
    → scaled_size factor digits ≡ Some (worth digits * factor)
number_scaled factor digits n small = grind (arith, and_from, le-leb)

-- ---- the last byte

last_and_rest : (text front : List ℕ) (last : ℕ) → text ≡ front ++ last ∷ [] → IsLastAndRest text last front
last_and_rest text front last e = grind (arith, length-append)

last_digit : (front : List ℕ) (last : ℕ) → list_all is_ascii_digit (front ++ last ∷ []) ≡ true → is_ascii_digit last
    ≡ true
last_digit [] last h = grind arith
last_digit (b ∷ bs) last h = grind (arith, last_digit bs last)

no_unit : (b : ℕ) → is_ascii_digit b ≡ true → factor_of b ≡ None
no_unit b h = grind arith

-- ---- sizes

same_worth : (digits : List ℕ) → worth digits * 1 ≡ worth digits
same_worth digits = omega arith

in_bytes : (digits : List ℕ) (size : ℕ) → Scaled 1 digits size → IsSize digits size
in_bytes digits size s = rw (sym (same_worth digits) ∙ s.size_is) at
    (InBytes digits s.number (omega arith))

read_size : (text : List ℕ) (size : ℕ) → size_of text ≡ Some size → IsSize text size
read_size [] size e = grind (arith, size_of-nothing)
read_size (b ∷ bs) size e = go (last_of (b ∷ bs) (omega arith))
  where
    go : (front : List ℕ) × (x : ℕ) × (b ∷ bs ≡ front ++ x ∷ []) → IsSize (b ∷ bs) size
    go s = unit (factor_of s.1) refl
      where
        split : IsLastAndRest (b ∷ bs) s.1 s.0
        split = last_and_rest (b ∷ bs) s.0 s.1 s.2

        unit : (o : Option ℕ) → factor_of s.1 ≡ o → IsSize (b ∷ bs) size
        unit None h = in_bytes (b ∷ bs) size (scaled_is 1 (b ∷ bs) size
            (sym (size_of-digits (b ∷ bs) s.0 s.1 split h) ∙ e))
        unit (Some factor) h =
            let d = scaled_is factor s.0 size (sym (size_of-letter (b ∷ bs) s.0 s.1 factor split h) ∙ e) in
            rw s.2 (subst (IsSize (s.0 ++ s.1 ∷ [])) d.size_is (InUnits s.0 s.1 factor d.number h d.small))

digits_read : (digits : List ℕ) → IsNumber digits → size_of digits ≡ scaled_size 1 digits
digits_read digits h = grind (arith, last_of, size_of-digits, last_and_rest, no_unit, last_digit)

size_read : (text : List ℕ) (size : ℕ) → IsSize text size → size_of text ≡ Some size
size_read text size (InBytes digits n small) = grind (arith, digits_read, number_scaled, same_worth)
size_read text size (InUnits digits letter factor n e small) =
    size_of-letter (digits ++ letter ∷ []) digits letter factor
    (last_and_rest (digits ++ letter ∷ []) digits letter refl) e ∙ number_scaled factor digits n small

-- ---- both ends

digits_free : (digits : List ℕ) → list_all is_ascii_digit digits ≡ true → Free 0x2D digits
digits_free [] h = refl
digits_free (b ∷ bs) h =
    grind (arith, digits_free bs)

unit_differs : (letter factor : ℕ) → factor_of letter ≡ Some factor → eqb letter 0x2D ≡ false
unit_differs letter factor e = grind arith

size_free : (text : List ℕ) (size : ℕ) → IsSize text size → Free 0x2D text
size_free text size h = grind (arith, digits_free, any-append, or_from, unit_differs)

low_free : (text : List ℕ) (least : ℕ) → IsLow text least → Free 0x2D text
low_free text least h = grind (arith, size_free)

nonempty_low : (text : List ℕ) (size : ℕ) → size_of text ≡ Some size → low_of text ≡ Some size
nonempty_low text size h = grind (arith, size_of-nothing)

nonempty_high : (text : List ℕ) (size : ℕ) → size_of text ≡ Some size → high_of text ≡ Some (Some size)
nonempty_high text size h = grind (arith, size_of-nothing)

low_read : (text : List ℕ) (least : ℕ) → IsLow text least → low_of text ≡ Some least
low_read text least h = grind (arith, nonempty_low, size_read)

high_read : (text : List ℕ) (most : Option ℕ) → IsHigh text most → high_of text ≡ Some most
high_read text most h = grind (arith, nonempty_high, size_read)

pub sizes_read : (text : List ℕ) (q : Query) → IsSizes text q → sizes_of text ≡ Some q
unfolding sizes_of
sizes_read text q (Between low high least most l h) =
    grind (arith, cut_at, low_free, low_read, high_read)

read_low : (text : List ℕ) (least : ℕ) → low_of text ≡ Some least → IsLow text least
read_low [] least e = let zero : 0 ≡ least = cc in subst (IsLow []) zero FromZero
read_low (b ∷ bs) least e = FromSize (b ∷ bs) least (read_size (b ∷ bs) least e)

read_high : (text : List ℕ) (most : Option ℕ) → high_of text ≡ Some most → IsHigh text most
read_high [] most e = let none : None ≡ most = cc in subst (IsHigh []) none Unbounded
read_high (b ∷ bs) most e = let m = map_some Some (size_of (b ∷ bs)) most e
    in rw m.2 at (ToSize (b ∷ bs) m.0 (read_size (b ∷ bs) m.0 m.1))

read_between : (low high : List ℕ) (q : Query) → sizes_between low high ≡ Some q → IsSizes (low ++ 0x2D ∷ high) q
read_between low high q e =
    option_and_then_some (λ least. option_map (λ most. Size least most) (high_of high)) (low_of low) q e (λ least i k.
    let m = map_some (λ most. Size least most) (high_of high) q k in
    subst (IsSizes (low ++ 0x2D ∷ high)) m.2
    (Between low high least m.0 (read_low low least i) (read_high high m.0 m.1)))

pub read_sizes : (text : List ℕ) (q : Query) → sizes_of text ≡ Some q → IsSizes text q
unfolding sizes_of
read_sizes text q e = go (texts_around 0x2D text) refl e
  where
    go : (o : Option (List ℕ × List ℕ)) → texts_around 0x2D text ≡ o
        → (let r : Option Query = elim o [ None ↦ None | Some p ↦ sizes_between p.0 p.1 ] in r) ≡ Some q
        → IsSizes text q
    go None h e = absurd cc
    go (Some p) h e = rw (let parts = cut_parts 0x2D text p h in parts.0) (read_between p.0 p.1 q e)

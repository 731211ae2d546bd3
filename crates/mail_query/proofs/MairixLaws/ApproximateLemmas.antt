-- The test for approximate matching is right after each byte of a text, so it is right at the end.
use Rattle.mail_query.proofs.Words.{◌≡◌, ℕ, ◌≤◌, Bool, true, false, ◌||◌, ◌&&◌, eqb, List, [], ◌∷◌, ◌++◌, length, refl, arith, list_all, is_ascii_digit, eqb-true, and_parts, is_nonempty, is_approximate, IsApproximate, Digits}

-- What the test says of the whole text, given the rest. `marked`: only digits came since the last `=`. `counted`: at
-- least one of them did.
abbrev pub approximate_after : Bool → Bool → List ℕ → Bool
approximate_after marked counted rest =
    ((counted && list_all is_ascii_digit rest) || (marked && (is_nonempty rest && list_all is_ascii_digit rest))) ||
    is_approximate rest

-- ---- a text that passes has an `=` and digits after it

filled : (bs : List ℕ) → is_nonempty bs ≡ true → 1 ≤ length bs
filled bs h = grind arith

marked_after : (b : ℕ) (bs : List ℕ) → IsApproximate bs → IsApproximate (b ∷ bs)
marked_after b bs (Digits front digits some only) = Digits (b ∷ front) digits some only

pub approximate_is : (text : List ℕ) → is_approximate text ≡ true → IsApproximate text
approximate_is [] e = absurd cc
approximate_is (b ∷ bs) e = go (eqb b 0x3D && (is_nonempty bs && list_all is_ascii_digit bs)) refl e (approximate_is bs)
  where
    go : (t : Bool) → (eqb b 0x3D && (is_nonempty bs && list_all is_ascii_digit bs)) ≡ t → (t || is_approximate bs)
        ≡ true → (is_approximate bs ≡ true → IsApproximate bs)
        → IsApproximate (b ∷ bs)
    go true h e after =
        let mark = and_parts (eqb b 0x3D) (is_nonempty bs && list_all is_ascii_digit bs) h in
        let rest = and_parts (is_nonempty bs) (list_all is_ascii_digit bs) mark.1 in
        rw (eqb-true b 0x3D mark.0) (Digits [] bs (filled bs rest.0) rest.1)
    go false h e after = marked_after b bs (after e)

marked : (front digits : List ℕ) → 1 ≤ length digits → list_all is_ascii_digit digits ≡ true
    → is_approximate (front ++ 0x3D ∷ digits) ≡ true
marked [] digits some only = grind arith
marked (b ∷ front) digits some only = grind (arith, marked front digits some only)

pub is_marked : (text : List ℕ) → IsApproximate text → is_approximate text ≡ true
is_marked text (Digits front digits some only) = marked front digits some only

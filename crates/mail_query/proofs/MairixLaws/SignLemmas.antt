-- Texts without a byte, and texts that a byte cuts in two.
use Rattle.mail_query.proofs.Words.{◌≡◌, ℕ, ◌+◌, ◌<◌, Bool, true, false, List, [], ◌∷◌, ◌++◌, length, get_or, Option, None, Some, refl, subst, ◌∙◌, arith, length-append, IsUtf8, option_map, list_any, slice_split, get_or-append_seam, take-append_seam, drop-append-add, eqb-true, or_from, or_left, cond_some, IsCharBoundary-after_ascii, IsUtf8-take, IsUtf8-drop, is_byte, texts_around, without_first, without_last, is_sign, is_approximate}
use Rattle.mail_query.proofs.PieceLemmas.{same_byte, Free}

pub any-append : (p : ℕ → Bool) (xs ys : List ℕ) → list_any p xs ≡ false → list_any p ys ≡ false → list_any p (xs ++ ys)
    ≡ false
any-append p [] ys h k = k
any-append p (x ∷ xs) ys h k =
    grind (arith, any-append p xs ys)

pub any-after : (p : ℕ → Bool) (xs ys : List ℕ) (y : ℕ) → p y ≡ true → list_any p (xs ++ y ∷ ys) ≡ true
any-after p [] ys y h = or_left (p y) (list_any p ys) h
any-after p (x ∷ xs) ys y h = grind (arith, any-after p xs ys y h)

-- ---- signs

-- a text without signs doesn't have any one of them
pub free_of : (c : ℕ) (text : List ℕ) → is_sign c ≡ true → list_any is_sign text ≡ false → Free c text
free_of c [] h k = refl
free_of c (b ∷ bs) h k =
    grind (arith, free_of c bs h)

pub not_approximate : (text : List ℕ) → list_any is_sign text ≡ false → is_approximate text ≡ false
not_approximate [] h = refl
not_approximate (b ∷ bs) h =
    grind (arith, not_approximate bs)

pub not_approximate-marked : (text : List ℕ) → list_any is_sign text ≡ false → is_approximate (text ++ 0x3D ∷ [])
    ≡ false
not_approximate-marked [] h = refl
not_approximate-marked (b ∷ bs) h =
    grind (arith, not_approximate-marked bs)

-- ---- cutting at a byte

pub split_none : (c : ℕ) (text : List ℕ) → Free c text → slice_split (is_byte c) text ≡ text ∷ []
split_none c [] h = refl
split_none c (b ∷ bs) h =
    grind (arith, split_none c bs)

pub split_at : (c : ℕ) (text rest : List ℕ) → Free c text → slice_split (is_byte c) (text ++ c ∷ rest)
    ≡ text ∷ slice_split (is_byte c) rest
split_at c [] rest h = rw same_byte refl
split_at c (b ∷ bs) rest h =
    grind (arith, split_at c bs rest)

-- ---- a text that was cut

pub map_some : {A B : Type 0} (f : A → B) (o : Option A) (y : B) → option_map f o ≡ Some y → (x : A) × (o ≡ Some x)
    × (f x ≡ y)
map_some f o y h = grind arith

pub last_is : (c : ℕ) (text sub : List ℕ) → without_last c text ≡ Some sub → text ≡ sub ++ c ∷ []
last_is c [] sub e = absurd cc
last_is c (b ∷ []) sub e = grind arith
last_is c (b ∷ d ∷ bs) sub e =
    let m = map_some (λ (t : List ℕ). b ∷ t) (without_last c (d ∷ bs)) sub e in
    grind (arith, last_is c (d ∷ bs))

pub first_is : (c : ℕ) (text sub : List ℕ) → without_first c text ≡ Some sub → text ≡ c ∷ sub
first_is c text sub h = grind (arith, cond_some, eqb-true)

pub cut_parts : (c : ℕ) (text : List ℕ) (p : List ℕ × List ℕ) → texts_around c text ≡ Some p → (text ≡ p.0 ++ c ∷ p.1)
    × Free c p.0
cut_parts c [] p e = absurd cc
cut_parts c (b ∷ bs) p e = grind (arith, cut_parts c bs)

pub uncut_free : (c : ℕ) (text : List ℕ) → texts_around c text ≡ None → list_any (is_byte c) text ≡ false
uncut_free c [] e = refl
uncut_free c (b ∷ bs) e = grind (arith, or_from, uncut_free c bs)

-- ---- both sides of an ASCII byte are UTF-8

pub utf8_before : (text rest : List ℕ) (c : ℕ) → c < 128 → IsUtf8 (text ++ c ∷ rest) → IsUtf8 text
utf8_before text rest c below utf8 =
    let whole : List ℕ = text ++ c ∷ rest in
    let here : get_or whole (length text) 0 ≡ c = get_or-append_seam text c rest 0 in
    grind (arith, length-append, take-append_seam, IsUtf8-take)

pub utf8_after : (text rest : List ℕ) (c : ℕ) → c < 128 → IsUtf8 (text ++ c ∷ rest) → IsUtf8 rest
utf8_after text rest c below utf8 =
    let whole : List ℕ = text ++ c ∷ rest in
    let here : get_or whole (length text) 0 ≡ c = get_or-append_seam text c rest 0 in
    let inside : length text < length whole = omega (arith, length-append text (c ∷ rest)) in
    subst IsUtf8 (drop-append-add text (c ∷ rest) 1)
    (IsUtf8-drop whole (length text + 1) utf8
    (IsCharBoundary-after_ascii whole (length text) utf8 inside (omega (arith, here, below))))

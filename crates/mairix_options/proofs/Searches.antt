-- What the result of a search for bytes says of the whole text.
use Rattle.mairix_options.proofs.Words.{◌≡◌, ◌↔◌, ℕ, Bool, true, List, [], ◌∷◌, ◌++◌, map, ◌&&◌, ◌||◌, ◌≤◌, length, take, drop, codes, nat_eq, Option, refl, sym, ap, ◌∙◌, arith, is_some, ⊎_elim, list_any, list_all, starts_with, HasSubslice, or_cases, or_right, false_from_ne_true, false≢true, Decides-eqb, same_from_decides, take_all, has_three_dots}
use Rattle.std.proofs.lemmas.List.Folds.{list_any_none, list_any_at}
use Rattle.std.proofs.lemmas.Grind.{get_or_default_zero}
use Rattle.std.proofs.lemmas.Slice.Eq.{starts_is}
use Rattle.memchr.specs.Find.{IsFirstByte}

list_any-searched : (test : ℕ → Bool) (hay : List ℕ) (r : Option ℕ) → IsFirstByte test hay r → list_any test hay
    ≡ is_some r
list_any-searched test hay r h = grind (arith, list_any_none, false_from_ne_true, get_or_default_zero, list_any_at)

-- a search of a text finds a byte exactly if one passes
pub list_any-found : (test : ℕ → Bool) (hay text : List ℕ) (r : Option ℕ) → hay ≡ text → IsFirstByte test hay r
    → list_any test text ≡ is_some r
list_any-found test hay text r same h = ap (list_any test) (sym same) ∙ list_any-searched test hay r h

abbrev dots : List ℕ
dots = codes "..."

has_three_dots-inside : (a b : List ℕ) → has_three_dots (a ++ (dots ++ b)) ≡ true
has_three_dots-inside [] b = refl
has_three_dots-inside (x ∷ a) b = or_right (starts_with nat_eq (x ∷ (a ++ (dots ++ b))) dots) _
    (has_three_dots-inside a b)

HasSubslice-three_dots : (text : List ℕ) → has_three_dots text ≡ true → HasSubslice text dots
HasSubslice-three_dots [] e = absurd (false≢true e)
HasSubslice-three_dots (x ∷ text) e =
    ⊎_elim
    (λ front. ([], drop 3 (x ∷ text), (starts_is Decides-eqb (x ∷ text) dots _ refl).0 front))
    (λ later. let inside = HasSubslice-three_dots text later in (x ∷ inside.0, inside.1, ap (λ l. x ∷ l) inside.2))
    (or_cases (starts_with nat_eq (x ∷ text) dots) (has_three_dots text) e)

-- a search for the three dots
pub has_three_dots-found : (text : List ℕ) (r : Bool) → ((r ≡ true) ↔ HasSubslice text dots) → r ≡ has_three_dots text
has_three_dots-found text r h = grind (arith, same_from_decides, HasSubslice-three_dots, has_three_dots-inside)

-- a test of each text's bytes
pub list_any_map : {X Y : Type 0} (f : X → Y) (test : Y → Bool) (xs : List X) → list_any test (map f xs)
    ≡ list_any (λ x. test (f x)) xs
list_any_map f test [] = refl
list_any_map f test (x ∷ xs) = ap (λ b. test (f x) || b) (list_any_map f test xs)

pub list_all_map : {X Y : Type 0} (f : X → Y) (test : Y → Bool) (xs : List X) → list_all test (map f xs)
    ≡ list_all (λ x. test (f x)) xs
list_all_map f test [] = refl
list_all_map f test (x ∷ xs) = ap (λ b. test (f x) && b) (list_all_map f test xs)

map-each : {X Y Z : Type 0} (f : X → Y) (g : Y → Z) (xs : List X) → map g (map f xs) ≡ map (λ x. g (f x)) xs
map-each f g [] = refl
map-each f g (x ∷ xs) = ap (λ l. g (f x) ∷ l) (map-each f g xs)

-- what a loop made of each element of xs, seen through f as ys
pub map-each-taken : {X Y Z : Type 0} (f : X → Y) (g : Y → Z) (n : ℕ) (xs : List X) (ys : List Y) (made : List Z)
    → length xs ≤ n → map f xs ≡ ys
    → made ≡ map (λ x. g (f x)) (take n xs) → made ≡ map g ys
map-each-taken f g n xs ys made all shown is = grind (arith, take_all, map-each)

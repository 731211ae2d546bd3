-- What holds of a list of sources after one more source.
use Rattle.std.proofs.Common.{◌≡◌, ◌∙◌, ◌&&◌, ◌<◌, ◌+◌, ℕ, Bool, true, List, [], ◌∷◌, ◌++◌, length, get_or, map, take, Option, option_copied, slice_get, sym, ap, arith}
use Rattle.std.specs.Slice.{IsItemAt}
use denote.Ref.{Bor}
use Rattle.std.proofs.lemmas.Option.{slice_get_past, slice_get_read}
use Rattle.std.specs.List.{list_all, range_with_len}
use Rattle.std.proofs.lemmas.List.{map_push, take_more}
use Rattle.std.proofs.lemmas.List.FromFn.{map-range_with_len_more}

pub and-true : (a b : Bool) → (a && b) ≡ true → (a ≡ true) × (b ≡ true)
and-true a b e = grind arith

-- what agrees changes nothing
pub and-right : (a b : Bool) → b ≡ true → (a && b) ≡ a
and-right a b e = grind arith

-- if two agree, the first one does
pub first-true : (a b c : Bool) → c ≡ (a && b) → c ≡ true → a ≡ true
first-true a b c is e = (and-true a b (sym is ∙ e)).0

and-assoc : (a b c : Bool) → ((a && b) && c) ≡ (a && (b && c))
and-assoc a b c = grind arith

and-end : (b : Bool) → (b && true) ≡ (true && b)
and-end b = grind arith

list_all-push : {X : Type 0} (p : X → Bool) (xs : List X) (x : X) → list_all p (xs ++ x ∷ []) ≡ (list_all p xs && p x)
list_all-push p [] x = and-end (p x)
list_all-push p (y ∷ xs) x = ap (λ b. p y && b) (list_all-push p xs x) ∙ sym (and-assoc (p y) (list_all p xs) (p x))

-- one more that agrees or not
pub agree-more : {X : Type 0} (p : X → Bool) (xs : List X) (x : X) (old mid new : Bool) → mid ≡ (old && list_all p xs)
    → new ≡ (mid && p x) → new ≡ (old && list_all p (xs ++ x ∷ []))
agree-more p xs x old mid new before now = grind (arith, and-assoc, list_all-push)

-- one more item, with the next number
pub map-next : {S X : Type 0} (f : S → X) (g : ℕ → X) (items : List S) (s : S) (n : ℕ)
    → map f items ≡ map g (range_with_len 0 n) → f s ≡ g n
    → map f (items ++ s ∷ []) ≡ map g (range_with_len 0 (n + 1))
map-next f g items s n h e = grind (arith, map_push, map-range_with_len_more)

-- one more item, for the next name
pub map-more : {S N X : Type 0} (f : S → X) (g : N → X) (items : List S) (s : S) (names : List N) (n : ℕ) (name : N)
    → map f items ≡ map g (take n names) → n < length names → name ≡ get_or names n name → f s ≡ g name
    → map f (items ++ s ∷ []) ≡ map g (take (n + 1) names)
map-more f g items s names n name before below is here =
    map_push f items s ∙ ap (λ l. l ++ f s ∷ []) before ∙ ap (λ x. map g (take n names) ++ x ∷ []) (here ∙ ap g is)
    ∙ sym (map_push g (take n names) (get_or names n name)) ∙ ap (map g) (sym (take_more names n name below))

-- the copy of what `get` gives is the item with this number, if there is one
pub copied-item : {X : Type 0} (xs : List X) (n : ℕ) (r : Option (Bor X)) → IsItemAt xs n r → option_copied r
    ≡ slice_get xs n
copied-item xs n r h = grind (arith, slice_get_past, slice_get_read)

-- The files that a run reads are apart if each of their kinds is.
use Rattle.std.proofs.Common.{arith, ◌≡◌, ◌∙◌, ap, refl, Bool, true, ◌&&◌, List, [], ◌∷◌, ◌++◌, map, Option, Result, IfOk}
use Rattle.std.specs.List.{list_all}
use Rattle.std.specs.Option.{option_map_or}

all_map : {B C : Type 0} (f : B → Bool) (h : C → B) (xs : List C) → list_all f (map h xs) ≡ list_all (λ x. f (h x)) xs
all_map f h [] = refl
all_map f h (x ∷ xs) = ap (λ b. f (h x) && b) (all_map f h xs)

-- if the first one and the one that may be pass, all pass exactly if the others do
pub all_exact : {A B C E : Type 0} (f : B → Bool) (g : A → B) (one : Option A) (h : C → B) (xs : List C) (first : B)
    (P : Type 0) (result : Result Bool E) → (P → f first ≡ true) → (P → option_map_or (λ a. f (g a)) one true ≡ true)
    → IfOk result (λ are. P → are ≡ list_all (λ x. f (h x)) xs)
    → IfOk result (λ are. P → are ≡ (f first && list_all f (option_map_or (λ a. g a ∷ []) one [] ++ map h xs)))
all_exact f g one h xs first P result passes may rest = grind (arith, all_map)

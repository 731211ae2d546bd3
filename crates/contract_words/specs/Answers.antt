-- How the result of a call relates to the value of a definition, and how results are put together.
use Rattle.std.specs.Prelude.{◌≡◌, ℕ, ◌+◌, List, [], ◌∷◌, ◌++◌, Option, IfSome, Result, Ok, Err}

-- A call returned what the definition gives: its value through `view`, or its error through `refusal`. An error that
-- `refusal` maps to None, such as lack of memory, says nothing of the definition.
abbrev pub Gives : {X Y E F : Type 0} → (X → Y) → (E → Option F) → Result X E → Result Y F → Type 0
Gives view refusal (Ok x) defined = defined ≡ Ok (view x)
Gives view refusal (Err e) defined = IfSome (refusal e) (λ f. defined ≡ Err f)

-- what f makes of the value; if there is an error, that error
infixl 10 ◌>>=◌
abbrev pub ◌>>=◌ : {A B E : Type 0} → Result A E → (A → Result B E) → Result B E
(Ok x) >>= f = f x
(Err e) >>= f = Err e

-- a result whose error is turned into one of the layer above
abbrev pub fault_as : {A E F : Type 0} → (E → F) → Result A E → Result A F
fault_as f (Ok x) = Ok x
fault_as f (Err e) = Err (f e)

-- these elements, before those of the rest; an error stays
abbrev pub with_front : {A E : Type 0} → List A → Result (List A) E → Result (List A) E
with_front front (Ok rest) = Ok (front ++ rest)
with_front front (Err e) = Err e

-- the lists that f makes of the elements, with their numbers from n on, one after another; the first error counts
abbrev pub collect_from : {X Y E : Type 0} → (ℕ → X → Result (List Y) E) → ℕ → List X → Result (List Y) E
collect_from f n [] = Ok []
collect_from f n (x ∷ xs) = f n x >>= (λ ys. with_front ys (collect_from f (n + 1) xs))

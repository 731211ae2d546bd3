-- If each path leads to a file, archives of which something is still known have the bytes of these files. The first
-- states are all states by their numbers.
use Rattle.std.proofs.Common.{arith, ◌≡◌, ◌∙◌, ◌&&◌, ℕ, zero, suc, Bool, true, List, [], ◌∷◌, map, All, Option, None, Some, IfSome, IsSome, Result, refl, ap, slice_get, get_or}
use Rattle.std.proofs.lemmas.List.Elements.{All-cons, All-nil}
use Rattle.std.specs.Option.{option_map}
use Rattle.std.specs.Result.{MatchResult}
use Rattle.named_archives.specs.Names.{all_known, held_while}

all-known : (bytes : List (List ℕ)) → all_known (map Some bytes) ≡ Some bytes
all-known [] = refl
all-known (b ∷ bytes) = ap (option_map (λ (xs : List (List ℕ)). b ∷ xs)) (all-known bytes)

all-some : (bytes : List (List ℕ)) → All IsSome (map Some bytes)
all-some [] = All-nil IsSome
all-some (b ∷ bytes) = All-cons IsSome (Some b) (map Some bytes) refl (all-some bytes)

pub are-some : (files : List (Option (List ℕ))) (bytes : List (List ℕ)) → files ≡ map Some bytes → All IsSome files
are-some files bytes is = grind (arith, all-some)

-- what is known after the calls, if each name led to a file before them
pub held-at-end : (before files : List (Option (List ℕ))) (agrees : Bool) (bytes : List (List ℕ))
    → (before ≡ map Some bytes → files ≡ map Some bytes) → (All IsSome files → IsSome (held_while agrees files))
    → before ≡ map Some bytes → held_while agrees files ≡ Some bytes
held-at-end before files agrees bytes whole known is = grind (arith, all-known, all-some)

-- all reports agree only if the first ones do
pub first-agree : (first more all : Bool) → all ≡ (first && more) → all ≡ true → first ≡ true
first-agree first more all is agree = grind arith

-- ---- the first states

state-at : {S : Type 0} (states : List S) (k : ℕ) → get_or (map Some states) k None ≡ slice_get states k
state-at [] k = refl
state-at (s ∷ states) zero = refl
state-at (s ∷ states) (suc k) = state-at states k

-- ---- by cases

-- a fault that is so under a premise
pub ended-if : {A E : Type 0} (Few : Type 0) (result : Result A E) (P : A → Type 0) (Q : E → Type 0)
    → MatchResult result P Q → MatchResult result P (λ e. Few → Q e)
ended-if Few result P Q h = grind arith

pub if-some : {A : Type 0} (o : Option A) (P Q : A → Type 0) → ((x : A) → P x → Q x) → IfSome o P → IfSome o Q
if-some o P Q f h = grind arith

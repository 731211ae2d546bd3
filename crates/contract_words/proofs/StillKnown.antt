-- Laws of what is still known: up to earlier calls it was known too, and with it all else that was known.
use Rattle.std.proofs.Common.{◌≡◌, ◌<◌, ℕ, zero, suc, List, [], ◌∷◌, length, get_or, map, Option, None, Some, IsSome, All, ap, arith}
use Rattle.std.specs.Io.KnownBytes.{IsAtEnd}
use Rattle.std.proofs.lemmas.List.Elements.{All-from_recursion, recursion_from_All}
use Rattle.std.proofs.Math.ListN.{set}
use Rattle.std.specs.List.{AllByRecursion}
use Rattle.contract_words.specs.Knowledge.{still_known}

-- what is known up to later calls is known up to earlier ones
pub still-earlier : {A B C : Type 0} (o : Option A) (mid : Option B) (new : Option C) (x : A)
    → (IsSome new → IsSome mid) → still_known o new ≡ Some x → still_known o mid ≡ Some x
still-earlier o mid new x h is = grind arith

-- if one thing is still known, so is each other that was known
pub still-other : {A B C : Type 0} (o : Option A) (p : Option B) (new : Option C) (x : A)
    → still_known o new ≡ Some x → still_known p new ≡ p
still-other o p new x is = grind arith

-- what is still known was known
pub still-known : {A C : Type 0} (o : Option A) (new : Option C) (x : A) → still_known o new ≡ Some x → o ≡ Some x
still-known o new x is = grind arith

-- at the end of a source of which something is still known nothing is left
pub still-end : {A : Type 0} (o : Option A) (new : Option (List ℕ)) (x : A) → still_known o new ≡ Some x → IsAtEnd new
    → new ≡ Some []
still-end o None x is end = absurd cc
still-end o (Some left) x is end = ap Some end

-- what was known is known up to a call if anything is known after it
pub known-still : {A C : Type 0} (o : Option A) (new : Option C) (x : A) → o ≡ Some x → IsSome new
    → still_known o new ≡ Some x
known-still o new x is some = grind arith

-- ---- devices of which one has been called

module _ {X C : Type 0} (f : X → Option C) (v d : X) where
  before : (xs : List X) (i : ℕ) → (IsSome (f v) → IsSome (f (get_or xs i d)))
      → AllByRecursion IsSome (map f (set xs i v))
      → AllByRecursion IsSome (map f xs)
  before [] i h all = all
  before (x ∷ xs) zero h all = (h all.0, all.1)
  before (x ∷ xs) (suc i) h all = (all.0, before xs i h all.1)

  -- if something is known of each after the call, it was before
  pub all-before : (xs : List X) (i : ℕ) → (IsSome (f v) → IsSome (f (get_or xs i d)))
      → All IsSome (map f (set xs i v)) → All IsSome (map f xs)
  all-before xs i h all =
      All-from_recursion IsSome (map f xs) (before xs i h (recursion_from_All IsSome (map f (set xs i v)) all))

  called : (xs : List X) (i : ℕ) → i < length xs → AllByRecursion IsSome (map f (set xs i v)) → IsSome (f v)
  called [] i below all = absurd (omega arith)
  called (x ∷ xs) zero below all = all.0
  called (x ∷ xs) (suc i) below all = let low : i < length xs = omega arith in called xs i low all.1

  -- then something is known of the one that was called
  pub known-called : (xs : List X) (i : ℕ) → i < length xs → All IsSome (map f (set xs i v)) → IsSome (f v)
  known-called xs i below all = called xs i below (recursion_from_All IsSome (map f (set xs i v)) all)

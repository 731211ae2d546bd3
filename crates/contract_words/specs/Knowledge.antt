-- What is known of the bytes of a device before and after its calls. A call may show that the device has other bytes
-- than was supposed. From then on nothing is known of them.
use Rattle.std.specs.Prelude.{◌≡◌, ℕ, List, Option, None, Some, IfSome, IsSome, All, map}

-- what was known before some calls, if something is still known after them
abbrev pub still_known : {A B : Type 0} → Option A → Option B → Option A
still_known old None = None
still_known old (Some new) = old

-- if something is known after some calls, the same was known before them
abbrev pub WasKnown : {A : Type 0} → Option A → Option A → Type 0
WasKnown old new = IfSome new (λ known. old ≡ Some known)

-- these are the bytes that each device had before some calls, and something is still known of each after them
abbrev pub AreStillKnown : {A B : Type 0} → List (Option A) → List (Option B) → List A → Type 0
AreStillKnown old new bytes = (old ≡ map Some bytes) × All IsSome new

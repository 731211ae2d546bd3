-- The archives to which some names lead, and the one of them that is open.
use Rattle.std.specs.Prelude.{◌≡◌, ℕ, Bool, List, [], ◌∷◌, map, Option, None, Some, slice_get}
use Rattle.std.specs.Prelude.{if◌then◌else◌}
use Rattle.contract_words.specs.Knowledge.{WasKnown}
use Rattle.std.specs.Option.{ForSome, option_map}
use Rattle.named_files.specs.Entries.{Entry, bytes_of}

-- the bytes of the file of each name, which has this text; None where the name leads to no file
abbrev pub files_of : {N : Type 0} → (N → List ℕ) → (List ℕ → Entry) → List N → List (Option (List ℕ))
files_of text holds names = map (λ name. bytes_of (holds (text name))) names

-- all of them, if each is known
abbrev pub all_known : {A : Type 0} → List (Option A) → Option (List A)
all_known [] = Some []
all_known (None ∷ rest) = None
all_known (Some x ∷ rest) = option_map (λ xs. x ∷ xs) (all_known rest)

-- the bytes of all files, as long as all that was returned agrees with them
abbrev pub held_while : Bool → List (Option (List ℕ)) → Option (List (List ℕ))
held_while agrees files = if agrees then all_known files else None

-- What is known of an open file is what is supposed of the file with this number, and it has to be in the state with
-- this number.
abbrev pub IsFileAt : {S : Type 0} → List (Option (List ℕ)) → List S → ℕ → Option (List ℕ) → S → Type 0
IsFileAt files states n known state =
    (slice_get states n ≡ Some state) × ForSome known (λ bytes. slice_get files n ≡ Some (Some bytes))

-- a file is open, and was found in the state with this number
abbrev pub IsInState : {A S : Type 0} → (A → Option S) → List S → ℕ → Option A → Type 0
IsInState found states n None = ⊥
IsInState found states n (Some file) = found file ≡ slice_get states n

-- the file is still open, and what is known of it was known before
abbrev pub IsStillOpen : {A : Type 0} → (A → Option (List ℕ)) → (A → Option (List ℕ)) → Option A → Option A → Type 0
IsStillOpen rest bytes None new = ⊥
IsStillOpen rest bytes (Some old) None = ⊥
IsStillOpen rest bytes (Some old) (Some new) = (rest new ≡ rest old) × WasKnown (bytes old) (bytes new)

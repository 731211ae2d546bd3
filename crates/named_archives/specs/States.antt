-- The states in which the files of some names were found.
use Rattle.std.specs.Prelude.{◌≡◌, ℕ, List, [], ◌∷◌, ◌++◌, map, reverse, Contains, Option, None, Some, IsSomeAnd}
use Rattle.std.specs.Prelude.{slice_get}

-- an open file, of which all these bytes are left, was found in this state
abbrev pub IsStateOf : {F S : Type 0} → (F → Option S) → (F → Option (List ℕ)) → Option (List ℕ) → S → Type 0
IsStateOf {F} found rest all state = (file : F) × (found file ≡ Some state) × (rest file ≡ all)

-- each of these states is that of the file with the same number
abbrev pub AreStatesOf : {F S : Type 0} → (F → Option S) → (F → Option (List ℕ)) → List (Option (List ℕ)) → List S
    → Type 0
AreStatesOf {S = S} found rest files states = (n : ℕ) (all : Option (List ℕ)) (state : S)
    → slice_get files n ≡ Some all → slice_get states n ≡ Some state → IsStateOf found rest all state

-- what is noted of files that were found in these states, one after another: the newest first
abbrev pub noted_states : {S : Type 0} → List S → List (Option S)
noted_states states = reverse (map Some states)

-- what is noted of files that are given back one after another, the newest first; nothing of one that wasn't opened
abbrev pub noted_files : {F S : Type 0} → (F → Option S) → List (Option F) → List (Option S)
noted_files found [] = []
noted_files found (None ∷ later) = noted_files found later
noted_files found (Some file ∷ later) = noted_files found later ++ found file ∷ []

-- the file was found in one of these states
abbrev pub IsInOneOf : {S : Type 0} → List S → Option S → Type 0
IsInOneOf states found = IsSomeAnd found (λ state. ∥ Contains states state ∥₁)

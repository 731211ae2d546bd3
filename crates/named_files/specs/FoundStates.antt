-- In which states files were found, by what is noted of those that were given back: the newest first, and None for one
-- that wasn't looked at after it was read.
use Rattle.std.specs.Prelude.{◌≡◌, List, ◌++◌, All, Contains, Option, IsSome}

-- the states are the same with those of more files, which were given back after them
pub record AddsFiles {S : Type 0} (before after : List (Option S)) : Type 0 where
  pub more : List (Option S)
  pub added : after ≡ more ++ before

-- a file was given back meanwhile that was found so
pub record IsFoundSince {S : Type 0} (before after : List (Option S)) (found : Option S) : Type 0 where
  pub more : List (Option S)
  pub added : after ≡ more ++ before
  pub contained : Contains more found

-- each file that was given back meanwhile was found in a state that passes
pub record AreFoundOnly {S : Type 0} (passes : Option S → Type 0) (before after : List (Option S)) : Type 0 where
  pub more : List (Option S)
  pub added : after ≡ more ++ before
  pub passing : All passes more

-- Each file that was read was found, after its last read, in a state in which one was found when this run first looked
-- at the files: `looks` and `looks'` are what is noted of these looks before and after the run, `reads` and `reads'`
-- what is noted of the files that were read.
abbrev pub AreReadInFirstStates : {S : Type 0} → List (Option S) → List (Option S) → List (Option S) → List (Option S)
    → Type 0
AreReadInFirstStates looks looks' reads reads' =
    AreFoundOnly (λ found. IsSome found × ∥ IsFoundSince looks looks' found ∥₁) reads reads'

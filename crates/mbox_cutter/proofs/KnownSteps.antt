-- The steps of a cutter, stated for bytes that may be known or not.
use Rattle.mbox_cutter.proofs.Words.{still_known, ◌≡◌, ℕ, ◌+◌, ◌<◌, List, Option, Some, IfSome, take, arith, option_map, Phase, Between, first_length, ArchiveEvent, coming_of, TakesEvent, TakesKnown, CutterPlace, coming_at, resume}
use Rattle.mbox_cutter.proofs.Steps.{resume-beginning}

-- ---- facts of known values

pub each_some : {A : Type 0} (o : Option A) (P : A → Type 0) → ((x : A) → o ≡ Some x → P x) → IfSome o P
each_some o P h = grind arith

-- what holds of an option's value holds of an option with the same value
pub at_same : {A : Type 0} (o o' : Option A) (P : A → Type 0) → IfSome o (λ x. o' ≡ Some x) → IfSome o' P → IfSome o P
at_same o o' P h h2 = grind arith

pub both : {A : Type 0} (o : Option A) (P Q : A → Type 0) → IfSome o P → IfSome o Q → IfSome o (λ x. P x × Q x)
both o P Q h h2 = grind arith

-- ---- what comes, if P holds of the bytes to come

-- the line is the first one of the bytes, and has n bytes
abbrev pub IsFirst : ℕ → List ℕ → List ℕ → Type 0
IsFirst n line b = (n ≡ first_length b) × (line ≡ take n b)

-- a step that takes the event and leaves these bytes
pub known-step : (bytes after last : Option (List ℕ)) (old new : CutterPlace) (was : Phase) (event : ArchiveEvent)
    (P : List ℕ → Type 0) (left : List ℕ → List ℕ) → old.phase ≡ was →
    IfSome (still_known bytes last) P → IfSome (still_known bytes last) (λ b. after ≡ Some (left b)) →
    ((b : List ℕ) → P b → TakesEvent event (resume was old.offset old.most b)
    (resume new.phase new.offset new.most (left b))) →
    TakesKnown event (still_known (coming_at old bytes) last) (coming_at new after)
known-step bytes after last old new was event P left is h leaves each = grind (arith, both)

-- what comes at the beginning
pub known-beginning : (bytes reader : Option (List ℕ)) (most : ℕ) → reader ≡ bytes
    → option_map (resume Between 0 most) reader ≡ option_map (coming_of most) bytes
known-beginning bytes reader most h = grind (arith, resume-beginning)

-- What a crash may leave under each name, and how time goes on.
use Rattle.std.specs.Prelude.{◌≡◌, ◌⊎◌, ℕ, ◌≤◌, Bool, true, List}
use Rattle.named_files.specs.Entries.{Entry}

-- what a crash may leave at each name that passes, it might have left before
abbrev pub LeavesNoMoreWhere : (List ℕ → Bool) → (List ℕ → Entry → Type 0) → (List ℕ → Entry → Type 0) → Type 0
LeavesNoMoreWhere passes old new = (n : List ℕ) (c : Entry) → passes n ≡ true → new n c → old n c

-- Time goes on: a crash since t might have left what it might have left before, or what it may leave now.
pub record Elapses (before now : ℕ) (past since : ℕ → List ℕ → Entry → Type 0)
    (may_leave : List ℕ → Entry → Type 0) : Type 0 where
  pub later : before ≤ now
  pub nothing_else : (t : ℕ) (n : List ℕ) (c : Entry) → t ≤ before → since t n c → past t n c ⊎ may_leave n c
  pub keeps : (t : ℕ) (n : List ℕ) (c : Entry) → t ≤ before → past t n c → since t n c

-- A crash at any moment since `old` leaves under each name something that has P.
pub record LeavesOnly {D : Type 0} (moment : D → ℕ) (left_since : D → ℕ → List ℕ → Entry → Type 0) (old new : D)
    (P : List ℕ → Entry → Type 0) : Type 0 where
  pub later : moment old ≤ moment new
  pub each : (n : List ℕ) (c : Entry) → left_since new (moment old) n c → P n c
  -- for a run that began earlier
  pub before : (t : ℕ) (n : List ℕ) (c : Entry) → t ≤ moment old → left_since new t n c → left_since old t n c ⊎ P n c

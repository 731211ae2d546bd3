-- What a call leaves of the names that it doesn't change.
use Rattle.std.specs.Prelude.{◌≡◌, ℕ, Bool, true, List}
use Rattle.named_files.specs.Crashes.{Elapses, LeavesNoMoreWhere, LeavesOnly}
use Rattle.named_files.specs.Entries.{Entry, SameWhere}

-- Each name that passes is left alone by a call: it leads to what it led to before, and a crash leaves under it nothing
-- that it might not have left before. Names are apart as before, and time goes on.
pub record LeavesAlone {D : Type 0} (apart : D → List ℕ → List ℕ → Bool) (holds : D → List ℕ → Entry)
    (may_leave : D → List ℕ → Entry → Type 0) (moment : D → ℕ) (left_since : D → ℕ → List ℕ → Entry → Type 0)
    (passes : List ℕ → Bool) (old new : D) : Type 0 where
  pub others : SameWhere passes (holds old) (holds new)
  pub crash : LeavesNoMoreWhere passes (may_leave old) (may_leave new)
  pub still_apart : (a b : List ℕ) → apart new a b ≡ apart old a b
  pub time : Elapses (moment old) (moment new) (left_since old) (left_since new) (may_leave new)

-- The same of several calls: a crash at any moment of them leaves under such a name what it might have left before the
-- first of them.
pub record LeavesAloneThroughout {D : Type 0} (apart : D → List ℕ → List ℕ → Bool) (holds : D → List ℕ → Entry)
    (may_leave : D → List ℕ → Entry → Type 0) (moment : D → ℕ) (left_since : D → ℕ → List ℕ → Entry → Type 0)
    (passes : List ℕ → Bool) (old new : D) : Type 0 where
  pub others : SameWhere passes (holds old) (holds new)
  pub crash : LeavesNoMoreWhere passes (may_leave old) (may_leave new)
  pub still_apart : (a b : List ℕ) → apart new a b ≡ apart old a b
  pub any_moment : LeavesOnly moment left_since old new (λ n c. passes n ≡ true → may_leave old n c)

-- How a run of calls on a folder goes on.
use Rattle.std.proofs.Common.{inl, inr, ⊎_elim, ℕ, List, arith}
use Rattle.named_files.specs.Entries.{Entry}
use Rattle.named_files.specs.Crashes.{Elapses, LeavesOnly}

module _ {D : Type 0} (moment : D → ℕ) (left_since : D → ℕ → List ℕ → Entry → Type 0) where
  -- before the first call
  pub started : (old : D) (P : List ℕ → Entry → Type 0)
      → ((n : List ℕ) (c : Entry) → left_since old (moment old) n c → P n c) → LeavesOnly moment left_since old old P
  started old P here = record { later = omega arith; each = here; before = λ t n c le left. inl left }

  -- one call more, after which a crash leaves what has P
  pub goes_on : (old mid new : D) (P may_leave : List ℕ → Entry → Type 0) → LeavesOnly moment left_since old mid P
      → Elapses (moment mid) (moment new) (left_since mid) (left_since new) may_leave
      → ((n : List ℕ) (c : Entry) → may_leave n c → P n c) → LeavesOnly moment left_since old new P
  goes_on old mid new P may_leave so_far time here = record {
    later = omega (arith, so_far.later, time.later);
    each = λ n c left. ⊎_elim (so_far.each n c) (here n c) (time.nothing_else (moment old) n c so_far.later left);
    before = λ t n c le left. ⊎_elim (so_far.before t n c le) (λ now. inr (here n c now))
        (time.nothing_else t n c (omega (arith, le, so_far.later)) left);
  }

  -- two runs, one after the other
  pub joins : (old mid new : D) (P Q : List ℕ → Entry → Type 0) → LeavesOnly moment left_since old mid P
      → LeavesOnly moment left_since mid new Q → ((n : List ℕ) (c : Entry) → Q n c → P n c)
      → LeavesOnly moment left_since old new P
  joins old mid new P Q first then_ weaker = record {
    later = omega (arith, first.later, then_.later);
    each = λ n c left. ⊎_elim (first.each n c) (weaker n c) (then_.before (moment old) n c first.later left);
    before = λ t n c le left. ⊎_elim (first.before t n c le) (λ now. inr (weaker n c now))
        (then_.before t n c (omega (arith, le, first.later)) left);
  }

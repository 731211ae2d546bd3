-- What calls on a folder may leave while a file is made, one call after another.
use Rattle.std.proofs.Common.{◌≡◌, ◌⊎◌, inl, inr, ⊎_elim, Bool, true, List, ℕ, Option, None, Some, [], ap, ◌&&◌, sym, ◌∙◌, subst, arith}
use Rattle.std.proofs.lemmas.Bool.Decides.{nat_tests}
use Rattle.std.specs.Io.KnownBytes.{Appends}
use Rattle.named_files.specs.Crashes.{Elapses, LeavesNoMoreWhere, LeavesOnly}
use Rattle.named_files.specs.Entries.{Entry, IsFileOf}
use Rattle.named_files.specs.TakingNames.{AreAllTaken, Replaces}
use Rattle.named_files.proofs.Moments.{started, goes_on, joins}

both_first : (a b : Bool) → (a && b) ≡ true → a ≡ true
both_first a b h = grind (arith, nat_tests)

-- a folder's ghosts, the folder before the first call, the two names, what the new file has taken
module _ {D : Type 0} (moment : D → ℕ) (left_since : D → ℕ → List ℕ → Entry → Type 0)
    (may_leave : D → List ℕ → Entry → Type 0) (apart : D → List ℕ → List ℕ → Bool)
    (old : D) (temporary name : List ℕ) (taken : Option (List ℕ)) where
  -- what may be left: what might have been left before the first call, or the whole new file
  abbrev pub Left : List ℕ → Entry → Type 0
  Left = Replaces (apart old) (may_leave old) temporary name taken

  -- the calls so far leave only that, at each moment since the first call, and now
  pub record LeaveOnlyThat (now : D) : Type 0 where
    pub run : LeavesOnly moment left_since old now Left
    pub here : (n : List ℕ) (c : Entry) → may_leave now n c → Left n c

  left_before : (n : List ℕ) (c : Entry) → may_leave old n c → Left n c
  left_before n c left = (λ _. left, λ e is_apart. inl (subst (λ m. may_leave old m c) e left))

  -- before the first call
  pub at_first : ((n : List ℕ) (c : Entry) → left_since old (moment old) n c → may_leave old n c) → LeaveOnlyThat old
  at_first only_now = record {
    run = started moment left_since old Left (λ n c left. left_before n c (only_now n c left));
    here = left_before;
  }

  -- after one call more
  pub after_call : (mid new : D) → LeaveOnlyThat mid
      → Elapses (moment mid) (moment new) (left_since mid) (left_since new) (may_leave new)
      → ((n : List ℕ) (c : Entry) → may_leave new n c → Left n c) → LeaveOnlyThat new
  after_call mid new so_far time here = record {
    run = goes_on moment left_since old mid new Left (may_leave new) so_far.run time here;
    here = here;
  }

  -- what a call leaves that changes what has the temporary name
  pub left_under_temporary : (mid new : D) → LeaveOnlyThat mid
      → ((a b : List ℕ) → apart mid a b ≡ apart old a b)
      → LeavesNoMoreWhere (λ n. apart mid n temporary) (may_leave mid) (may_leave new)
      → (n : List ℕ) (c : Entry) → may_leave new n c → Left n c
  left_under_temporary mid new so_far same less n c left =
      let stays = λ (h : apart old n temporary ≡ true). so_far.here n c (less n c (same n temporary ∙ h) left) in (
        λ both. (stays (both_first (apart old n temporary) (apart old n name) both)).0 both,
        λ e is_apart. (stays (subst (λ m. apart old m temporary ≡ true) (sym e) is_apart)).1 e is_apart,
      )

  -- what a rename leaves of a file that is on the disk
  left_by_rename : (new : D) (may_hold : List ℕ → Type 0)
      → LeavesNoMoreWhere (λ n. apart old n temporary && apart old n name) (may_leave old) (may_leave new)
      → ((c : Entry) → may_leave new name c → may_leave old name c ⊎ IsFileOf may_hold c)
      → ((bytes : List ℕ) → may_hold bytes → AreAllTaken taken bytes)
      → (n : List ℕ) (c : Entry) → may_leave new n c → Left n c
  left_by_rename new may_hold less named whole n c left = (
    λ both. less n c both left,
    λ e is_apart. ⊎_elim inl (λ h. inr (h.0, whole h.0 h.1, h.2)) (named c (subst (λ m. may_leave new m c) e left)),
  )

  -- a rename, as the first call, of a file that is on the disk
  pub after_rename : ((n : List ℕ) (c : Entry) → left_since old (moment old) n c → may_leave old n c)
      → (new : D) → Elapses (moment old) (moment new) (left_since old) (left_since new) (may_leave new)
      → LeavesNoMoreWhere (λ n. apart old n temporary && apart old n name) (may_leave old) (may_leave new)
      → (may_hold : List ℕ → Type 0)
      → ((c : Entry) → may_leave new name c → may_leave old name c ⊎ IsFileOf may_hold c)
      → ((bytes : List ℕ) → may_hold bytes → AreAllTaken taken bytes)
      → LeaveOnlyThat new
  after_rename only_now new time less may_hold named whole =
      after_call old new (at_first only_now) time (left_by_rename new may_hold less named whole)

  -- a file was made, and then it took its name
  pub after_taking : (mid new : D) → LeaveOnlyThat mid
      → ((a b : List ℕ) → apart mid a b ≡ apart old a b)
      → LeavesNoMoreWhere (λ n. apart old n temporary) (may_leave old) (may_leave mid)
      → LeavesOnly moment left_since mid new (Replaces (apart mid) (may_leave mid) temporary name taken)
      → LeavesOnly moment left_since old new Left
  after_taking mid new so_far same less later =
      joins moment left_since old mid new Left (Replaces (apart mid) (may_leave mid) temporary name taken)
      so_far.run later (λ n c left. (
        λ both. less n c (both_first (apart old n temporary) (apart old n name) both)
            (left.0 ((λ i. same n temporary i && same n name i) ∙ both)),
        λ e is_apart. ⊎_elim (λ before. inl (less name c is_apart before)) inr
            (left.1 e (same name temporary ∙ is_apart)),
      ))

-- what was sent to a new file
pub sent_whole : (t0 t1 : Option (List ℕ)) (bytes : List ℕ) → t0 ≡ Some [] → Appends t0 t1 bytes → t1 ≡ Some bytes
sent_whole t0 None bytes is h = absurd (subst (λ t. Appends t None bytes) is h)
sent_whole t0 (Some y) bytes is h = ap Some (subst (λ t. Appends t (Some y) bytes) is h)

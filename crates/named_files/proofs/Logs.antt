-- What a folder holds after one more change, and what a crash leaves of it.
use Rattle.std.proofs.Common.{◌≡◌, ◌⊎◌, inl, inr, refl, ap, subst, sym, ◌&&◌, ◌∙◌, ℕ, ◌≤◌, Bool, true, false, not, List, [], ◌∷◌, ◌++◌, length, if◌then◌else◌, arith, Option, None, Some, IfSome}
use Rattle.std.proofs.lemmas.Bool.Decides.{nat_tests}
use Rattle.std.proofs.lemmas.List.Elements.{All-tail}
use Rattle.std.proofs.lemmas.Slice.Eq.{bytes_eq-Decides}
use Rattle.std.specs.Prelude.{All, ◌≢◌}
use Rattle.std.specs.Bool.{MatchBool}
use Rattle.std.specs.Option.{unwrap_or}
use Rattle.std.specs.Str.{bytes_eq}
use Rattle.named_files.specs.Crashes.{Elapses, LeavesNoMoreWhere}
use Rattle.named_files.specs.Entries.{Entry, File, IsFileOf, SameWhere}
use Rattle.named_files.specs.Logs.{Held, Change, Named, Synced, held_after_changes, MayBe, MayLeave, MayHaveLeft}

-- a file
abbrev pub file_of : List ℕ → Bool → Bool → Held
file_of bytes kept left = record { entry = File bytes; is_on_disk = kept; is_left = left }

pub second : (a b : Bool) → (a && b) ≡ true → b ≡ true
second a b h = grind (arith, nat_tests)

-- what holds of any value holds of this one, if there is one
pub if_any : {X : Type 0} (o : Option X) {P : X → Type 0} → ((x : X) → P x) → IfSome o P
if_any None h = tt
if_any (Some x) h = h x

tail_same : (x y : Change) (xs ys : List Change) → x ∷ xs ≡ y ∷ ys → xs ≡ ys
tail_same x y xs ys is = cc

head_same : (x y : Change) (xs ys : List Change) → x ∷ xs ≡ y ∷ ys → x ≡ y
head_same x y xs ys is = cc

module _ (first : List ℕ → Held) (changes : List Change) where
  -- ---- a name leads to something else

  pub held_named : (name n : List ℕ) (held : Held) → n ≡ name → held_after_changes first (Named name held ∷ changes) n
      ≡ held
  held_named name n held is =
      ap (λ b. unwrap_or (if b then Some held else None) (held_after_changes first changes n))
      ((bytes_eq-Decides n name).1 is)

  pub held_others : (name n : List ℕ) (held : Held) → not (bytes_eq n name) ≡ true
      → held_after_changes first (Named name held ∷ changes) n ≡ held_after_changes first changes n
  held_others name n held is_apart = grind (arith, nat_tests)

  -- a crash undoes the change or not
  undone_or_not : (change : Change) (n : List ℕ) (c : Entry) → MayLeave first (change ∷ changes) n c
      → MayBe (held_after_changes first (change ∷ changes) n) c ⊎ ((change ≢ Synced n) × MayLeave first changes n c)
  undone_or_not change n c left = cases left.0 left.1 left.2 left.3 left.4
    where
      cases : (undone kept : List Change) → change ∷ changes ≡ undone ++ kept → All (λ change. change ≢ Synced n) undone
          → MayBe (held_after_changes first kept n) c
          → MayBe (held_after_changes first (change ∷ changes) n) c ⊎ ((change ≢ Synced n) × MayLeave first changes n c)
      cases [] kept is none may = inl (subst (λ l. MayBe (held_after_changes first l n) c) (sym is) may)
      cases (x ∷ undone) kept is none may = inr (
        λ synced. none 0 x (omega arith) (sym (head_same change x changes (undone ++ kept) is) ∙ synced),
        (undone, kept, tail_same change x changes (undone ++ kept) is, All-tail (λ y. y ≢ Synced n) x undone none, may),
      )

  nothing_undone : (n : List ℕ) (c : Entry) → MayBe (held_after_changes first changes n) c → MayLeave first changes n c
  nothing_undone n c may = ([], changes, refl, λ k d lt. absurd (omega (arith, lt)), may)

  -- what a crash leaves under another name
  pub less_others : (name n : List ℕ) (held : Held) (c : Entry) → not (bytes_eq n name) ≡ true
      → MayLeave first (Named name held ∷ changes) n c → MayLeave first changes n c
  less_others name n held c is_apart left = elim (undone_or_not (Named name held) n c left) [
    | inl may ↦ nothing_undone n c (subst (λ h. MayBe h c) (held_others name n held is_apart) may)
    | inr before ↦ before.1
  ]

  -- what a crash leaves under the name itself
  pub left_named : (name : List ℕ) (held : Held) (c : Entry) → MayLeave first (Named name held ∷ changes) name c
      → MayLeave first changes name c ⊎ MayBe held c
  left_named name held c left = elim (undone_or_not (Named name held) name c left) [
    | inl may ↦ inr (subst (λ h. MayBe h c) (held_named name name held refl) may)
    | inr before ↦ inl before.1
  ]

  -- ---- a name is brought to the disk

  pub less_synced : (name n : List ℕ) (c : Entry) → MayLeave first (Synced name ∷ changes) n c
      → MayLeave first changes n c
  less_synced name n c left = elim (undone_or_not (Synced name) n c left) [
    | inl may ↦ nothing_undone n c may
    | inr before ↦ before.1
  ]

  -- ---- time goes on

  pub elapses_more : (change : Change) → Elapses (length changes) (length (change ∷ changes))
      (MayHaveLeft first changes) (MayHaveLeft first (change ∷ changes)) (MayLeave first (change ∷ changes))
  elapses_more change = record {
    later = omega arith;
    nothing_else = λ t n c le left. cases n t c left.0 left.1 left.2 left.3 left.4;
    keeps = λ t n c le left. (change ∷ left.0, left.1, ap (λ (l : List Change). change ∷ l) left.2, left.3, left.4);
  }
    where
      cases : (n : List ℕ) (t : ℕ) (c : Entry) (later earlier : List Change) → change ∷ changes ≡ later ++ earlier
          → t ≤ length earlier → MayLeave first earlier n c
          → MayHaveLeft first changes t n c ⊎ MayLeave first (change ∷ changes) n c
      cases n t c [] earlier is le left = inr (subst (λ l. MayLeave first l n c) (sym is) left)
      cases n t c (x ∷ later) earlier is le left =
          inl (later, earlier, tail_same change x changes (later ++ earlier) is, le, left)

-- the same of a folder whose changes are these
module _ (first : List ℕ → Held) (old new : List Change) where
  pub is_named : (name : List ℕ) (held : Held) → new ≡ Named name held ∷ old → held_after_changes first new name ≡ held
  is_named name held is = ap (λ l. held_after_changes first l name) is ∙ held_named first old name name held refl

  pub same_others : (name : List ℕ) (held : Held) → new ≡ Named name held ∷ old
      → SameWhere (λ n. not (bytes_eq n name)) (λ n. (held_after_changes first old n).entry)
      (λ n. (held_after_changes first new n).entry)
  same_others name held is n is_apart =
      ap (λ l. (held_after_changes first l n).entry) is
      ∙ ap (λ (h : Held). h.entry) (held_others first old name n held is_apart)

  pub no_more_others : (name : List ℕ) (held : Held) → new ≡ Named name held ∷ old
      → LeavesNoMoreWhere (λ n. not (bytes_eq n name)) (MayLeave first old) (MayLeave first new)
  no_more_others name held is n c is_apart left =
      less_others first old name n held c is_apart (subst (λ l. MayLeave first l n c) is left)

  -- time goes on to a folder of these changes
  abbrev pub GoesOnTo : List Change → Type 0
  GoesOnTo changes =
      Elapses (length old) (length changes) (MayHaveLeft first old) (MayHaveLeft first changes) (MayLeave first changes)

  pub time_goes_on : (change : Change) → new ≡ change ∷ old → GoesOnTo new
  time_goes_on change is = subst GoesOnTo (sym is) (elapses_more first old change)

  pub no_more_synced : (name : List ℕ) → new ≡ Synced name ∷ old
      → (n : List ℕ) (c : Entry) → MayLeave first new n c → MayLeave first old n c
  no_more_synced name is n c left = less_synced first old name n c (subst (λ l. MayLeave first l n c) is left)

  -- after a name is brought to the disk, a crash leaves what it leads to
  pub only_synced : (name : List ℕ) → new ≡ Synced name ∷ old → (held_after_changes first old name).is_on_disk ≡ true
      → (c : Entry) → MayLeave first new name c → c ≡ (held_after_changes first old name).entry
  only_synced name is kept c left =
      elim (undone_or_not first old (Synced name) name c (subst (λ l. MayLeave first l name c) is left)) [
        | inl may ↦ subst (λ b. MatchBool b (c ≡ (held_after_changes first old name).entry)
            (IsFileOf (λ _. Unit {0}) c)) kept
            may
        | inr before ↦ absurd (before.0 refl)
      ]

  -- what a crash leaves of a new file that took its name
  pub left_of_new : (name bytes : List ℕ) (kept left : Bool) → new ≡ Named name (file_of bytes kept left) ∷ old
      → (c : Entry) → MayLeave first new name c
      → MayLeave first old name c ⊎ IsFileOf (λ found. kept ≡ true → found ≡ bytes) c
  left_of_new name bytes kept left is c may =
      elim (left_named first old name (file_of bytes kept left) c (subst (λ l. MayLeave first l name c) is may)) [
        | inl before ↦ inl before
        | inr now ↦ inr (torn kept now)
      ]
    where
      torn : (kept : Bool) → MayBe (file_of bytes kept left) c → IsFileOf (λ found. kept ≡ true → found ≡ bytes) c
      torn true now = (bytes, λ _. refl, now)
      torn false now = (now.0, λ h. cc, now.2)

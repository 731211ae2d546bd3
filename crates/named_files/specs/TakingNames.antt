-- What the making of a file leaves, when it is done and at any moment before.
use Rattle.std.specs.Prelude.{◌≡◌, ◌⊎◌, ℕ, Bool, true, false, List, Option, IfSome, Result, Ok, Err, ◌&&◌}
use Rattle.named_files.specs.Entries.{Entry, IsFileOf}
use Rattle.named_files.specs.declared.name_fault.NameFault.{NameFault}
use Rattle.named_files.specs.declared.name_fault.NameFault.TheVariants.{NotNamed, NotSynced}
use Rattle.named_files.specs.declared.refusal.Refusal.TheVariants.{Refused}

-- these are all bytes that a new file has taken, if that is known
abbrev pub AreAllTaken : Option (List ℕ) → List ℕ → Type 0
AreAllTaken taken bytes = IfSome taken (λ all. bytes ≡ all)

-- While a file is made for a name, under a temporary name, a crash leaves under each name that is apart from both what
-- it might have left before. Under the name itself, if it is apart from the temporary name, it leaves that or the whole
-- new file.
abbrev pub Replaces : (List ℕ → List ℕ → Bool) → (List ℕ → Entry → Type 0) → List ℕ → List ℕ → Option (List ℕ) → List ℕ
    → Entry → Type 0
Replaces apart may_leave temporary name taken n c =
    ((apart n temporary && apart n name) ≡ true → may_leave n c)
    × (n ≡ name → apart name temporary ≡ true → may_leave name c ⊎ IsFileOf (AreAllTaken taken) c)

-- The calls by which a file takes its name. It is on the disk when it is renamed, and then its name is brought to the
-- disk. A file is removed if it couldn't be brought to the disk, which is never for lack of memory, or if it couldn't
-- be renamed.
abbrev pub TakesName : {D : Type 0} → (D → List ℕ → Bool → Bool → D → Type 0) → (D → List ℕ → Bool → D → Type 0)
    → (D → D → Type 0) → List ℕ → Result (Unit {0}) NameFault → D → D → Type 0
TakesName {D} renames syncs discards name (Ok done) old new =
    (named : D) × renames old name true true named × syncs named name true new
TakesName {D} renames syncs discards name (Err (NotSynced why)) old new =
    (named : D) × renames old name true true named × syncs named name false new
TakesName {D} renames syncs discards name (Err (NotNamed why)) old new =
    ((why ≡ Refused) × discards old new) ⊎ ((kept : D) × renames old name true false kept × discards kept new)

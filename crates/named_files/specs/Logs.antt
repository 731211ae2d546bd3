-- A folder by what was done to its names, and what a crash leaves of it.
use Rattle.std.specs.Prelude.{◌≡◌, ◌≢◌, ⊤, ℕ, ◌≤◌, Bool, List, [], ◌∷◌, ◌++◌, length, All, if◌then◌else◌, Option, None}
use Rattle.std.specs.Prelude.{Some, refl}
use Rattle.std.specs.Option.{unwrap_or}
use Rattle.std.specs.Bool.{MatchBool}
use Rattle.std.specs.Str.{bytes_eq}
use Rattle.std.proofs.Common.{◌∙◌, sym, subst, arith, length-append}
use Rattle.named_files.specs.Entries.{Entry, IsFileOf}

-- what a name leads to
pub record Held : Type 0 where
  pub entry : Entry
  -- whether all its bytes are on the disk
  pub is_on_disk : Bool
  -- whether it is a file that a killed run left
  pub is_left : Bool

-- a change of a folder
pub data Change : Type 0 where
  -- a name leads to this from now on
  Named : List ℕ → Held → Change
  -- a name was brought to the disk
  Synced : List ℕ → Change

-- The changes of a folder are a list, the newest first. `first` is what each name led to before them.

-- what a change lets a name lead to; None if it changes something else
abbrev pub named_by : Change → List ℕ → Option Held
named_by (Named name held) n = if bytes_eq n name then Some held else None
named_by (Synced name) n = None

-- what a name leads to after these changes: what the newest one that names it says
abbrev pub held_after_changes : (List ℕ → Held) → List Change → List ℕ → Held
held_after_changes first [] n = first n
held_after_changes first (change ∷ older) n = unwrap_or (named_by change n) (held_after_changes first older n)

-- what a crash may leave of it: a file of any bytes, if its bytes aren't on the disk
abbrev pub MayBe : Held → Entry → Type 0
MayBe held c = MatchBool held.is_on_disk (c ≡ held.entry) (IsFileOf (λ _. ⊤) c)

-- A crash undoes some of the newest changes, up to the last one that brought the name to the disk.
abbrev pub MayLeave : (List ℕ → Held) → List Change → List ℕ → Entry → Type 0
MayLeave first changes n c = (undone : List Change) × (kept : List Change) × (changes ≡ undone ++ kept)
    × All (λ change. change ≢ Synced n) undone × MayBe (held_after_changes first kept n) c

-- a crash may have left this at a moment from which on the folder had at least t changes
abbrev pub MayHaveLeft : (List ℕ → Held) → List Change → ℕ → List ℕ → Entry → Type 0
MayHaveLeft first changes t n c = (later : List Change) × (earlier : List Change) × (changes ≡ later ++ earlier)
    × (t ≤ length earlier) × MayLeave first earlier n c

-- ---- this moment

pub left_now : (first : List ℕ → Held) (changes : List Change) (t : ℕ) (n : List ℕ) (c : Entry)
    → t ≤ length changes → MayLeave first changes n c → MayHaveLeft first changes t n c
left_now first changes t n c le left = ([], changes, refl, le, left)

no_more : (later earlier : List Change) → length (later ++ earlier) ≤ length earlier → later ++ earlier ≡ earlier
no_more [] earlier le = refl
no_more (x ∷ later) earlier le = absurd (omega (arith, le, length-append later earlier))

pub only_left : (first : List ℕ → Held) (changes : List Change) (n : List ℕ) (c : Entry)
    → MayHaveLeft first changes (length changes) n c → MayLeave first changes n c
only_left first changes n c left =
    let all = no_more left.0 left.1 (subst (λ (l : List Change). length l ≤ length left.1) left.2 left.3) in
    subst (λ l. MayLeave first l n c) (sym (left.2 ∙ all)) left.4

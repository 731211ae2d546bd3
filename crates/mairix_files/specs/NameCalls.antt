-- The calls on names that were done, and what they make of a folder.
use Rattle.std.specs.Prelude.{◌≡◌, ℕ, Bool, true, false, List, [], ◌∷◌, not, if◌then◌else◌}
use Rattle.std.specs.Str.{bytes_eq}
use Rattle.named_files.specs.Entries.{Entry, Nothing, File}
use Rattle.named_files.specs.Logs.{Held, Change, Named, Synced, held_after_changes}
use Rattle.mairix_files.specs.declared.supposed_names.SupposedNames.{SupposedNames}

-- a call on a name that was done
pub data NameCall : Type 0 where
  -- a file was made under this name
  Made : List ℕ → NameCall
  -- the file that was made was given this name; its bytes, and whether all of them were on the disk
  Renamed : List ℕ → List ℕ → Bool → NameCall
  -- this name was brought to the disk
  Kept : List ℕ → NameCall
  -- the file that was made was removed, if the system did that
  Discarded : NameCall
  -- what a killed run left under this name was removed
  Cleared : List ℕ → NameCall

-- The calls of a folder are a list, the newest first.

-- a call was done, and no other
abbrev pub NotesIfDone : Bool → NameCall → List NameCall → List NameCall → Type 0
NotesIfDone done call old new = new ≡ (if done then call ∷ old else old)

-- what these calls change in a folder, if the system carries them out
abbrev pub changes_by : List NameCall → List Change
changes_by [] = []
changes_by (Made name ∷ earlier) = changes_by earlier
changes_by (Renamed name bytes kept ∷ earlier) =
    Named name (record { entry = File bytes; is_on_disk = kept; is_left = false }) ∷ changes_by earlier
changes_by (Kept name ∷ earlier) = Synced name ∷ changes_by earlier
changes_by (Discarded ∷ earlier) = changes_by earlier
changes_by (Cleared name ∷ earlier) =
    Named name (record { entry = Nothing; is_on_disk = true; is_left = false }) ∷ changes_by earlier

-- ---- what is supposed

-- what a name leads to by this list; Nothing if it isn't there
abbrev pub entry_in : List (List ℕ × Entry) → List ℕ → Entry
entry_in [] n = Nothing
entry_in (first ∷ rest) n = if bytes_eq n first.0 then first.1 else entry_in rest n

-- the name to which these links lead from a name, one after another; the first name of each leads to the second one
abbrev pub place_by_links : List (List ℕ × List ℕ) → List ℕ → List ℕ
place_by_links [] n = n
place_by_links (link ∷ rest) n = place_by_links rest (if bytes_eq n link.0 then link.1 else n)

-- whether two names don't lead to one place
abbrev pub are_apart : List (List ℕ × List ℕ) → List ℕ → List ℕ → Bool
are_apart links a b = not (bytes_eq (place_by_links links a) (place_by_links links b))

-- What each name is supposed to lead to before any call. It is on the disk.
abbrev pub supposed_first : SupposedNames → List ℕ → Held
supposed_first supposed n =
    record { entry = entry_in supposed.entries (place_by_links supposed.links n); is_on_disk = true; is_left = false }

-- what a name leads to after these calls, if the system carries them out
abbrev pub supposed_now : SupposedNames → List NameCall → List ℕ → Entry
supposed_now supposed calls n = (held_after_changes (supposed_first supposed) (changes_by calls) n).entry

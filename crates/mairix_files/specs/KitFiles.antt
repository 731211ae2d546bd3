-- What is known of the bytes of an open file, by its record.
use Rattle.std.specs.Prelude.{◌≡◌, ⊤, ℕ, Bool, true, false, List, [], ◌∷◌, Option, None, Some, Result, IfSome}
use Rattle.std.specs.Prelude.{if◌then◌else◌}
use Rattle.std.specs.Bool.{MatchBool}
use Rattle.std.specs.Option.{option_map}
use Rattle.std.specs.Io.KnownBytes.{ReadConsumes}
use Rattle.call_record.specs.declared.record.Record.{Record}
use Rattle.contract_words.specs.Archives.{archive_at}
use Rattle.call_record.specs.Calls.{Call, agrees_with, held_after}
use Rattle.call_record.specs.Noted.{Notes, held_by, left_of}

-- this, if a file is supposed
abbrev pub if_supposed : List (List ℕ) → Option (List ℕ) → Option (List ℕ)
if_supposed [] known = None
if_supposed (bytes ∷ others) known = known

-- the bytes of this file as the only ones; none at all if it is no file
abbrev pub only : Option (List ℕ) → List (List ℕ)
only None = []
only (Some bytes) = bytes ∷ []

-- the bytes that are supposed of the file; None if no file is supposed
abbrev pub file_supposed : Record → Option (List ℕ)
file_supposed noted = if_supposed noted.supposed (Some (archive_at noted.supposed 0))

-- what is left of the supposed bytes, if they agree with each read
abbrev pub rest_held : Record → Option (List ℕ)
rest_held noted = if_supposed noted.supposed (left_of 0 noted)

-- the supposed bytes, if they agree with each call
abbrev pub bytes_held : Record → Option (List ℕ)
bytes_held noted = if_supposed noted.supposed (option_map (λ archives. archive_at archives 0) (held_by noted))

-- this call was noted and no other, if it was made; otherwise none was
abbrev pub NotesIf : Bool → Call → Record → Record → Type 0
NotesIf made call old new = MatchBool made (Notes call old new) (new ≡ old)

-- An open file stays open. If its bytes are known, each is given, once and in order, and it ends only after the last
-- one. A closed file stays closed.
abbrev pub GivesOn : {F E : Type 0} → (F → Option (List ℕ)) → Option F → Option F → Result ℕ E → List ℕ → Type 0
GivesOn remaining (Some old) (Some new) result into = ReadConsumes (remaining old) (remaining new) result into
GivesOn remaining (Some old) None result into = ⊥
GivesOn remaining None (Some new) result into = ⊥
GivesOn remaining None None result into = ⊤

-- these are the bytes of the only archive, if these are known
abbrev AreAllOfArchive : List ℕ → Option (List (List ℕ)) → Type 0
AreAllOfArchive all held = IfSome (option_map (λ archives. archive_at archives 0) held) (λ known. known ≡ all)

still_all : (all : List ℕ) (agrees : Bool) (held : Option (List (List ℕ))) → AreAllOfArchive all held
    → AreAllOfArchive all (if agrees then held else None)
still_all all true held h = h
still_all all false held h = tt

all_after : (archives : List (List ℕ)) (all : List ℕ) (calls : List Call) → archive_at archives 0 ≡ all
    → AreAllOfArchive all (held_after archives calls)
all_after archives all [] is = is
all_after archives all (call ∷ earlier) is =
    still_all all (agrees_with call archives) (held_after archives earlier) (all_after archives all earlier is)

if_any_all : (supposed : List (List ℕ)) (known : Option (List ℕ)) (all : List ℕ) → IfSome known (λ bytes. bytes ≡ all)
    → IfSome (if_supposed supposed known) (λ bytes. bytes ≡ all)
if_any_all [] known all h = tt
if_any_all (bytes ∷ others) known all h = h

-- what is known of the bytes is what is supposed
pub held_is_supposed : (noted : Record) (all : List ℕ) → archive_at noted.supposed 0 ≡ all
    → IfSome (bytes_held noted) (λ known. known ≡ all)
held_is_supposed noted all is = if_any_all noted.supposed _ all (all_after noted.supposed all noted.calls is)

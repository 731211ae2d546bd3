-- What a record says after one more call.
use Rattle.std.specs.Prelude.{◌≡◌, ℕ, List, ◌∷◌, take, Option, None, Some, Result, Ok, Err}
use Rattle.contract_words.specs.Archives.{archive_at}
use Rattle.call_record.specs.declared.record.Record.{Record}
use Rattle.call_record.specs.Calls.{Call, read_next, read_at, measured, written, left_after, held_after}

-- what is left of the supposed archive with this number, if it agrees with all reads of a source
abbrev pub left_of : ℕ → Record → Option (List ℕ)
left_of archive noted = left_after (archive_at noted.supposed archive) noted.calls

-- the supposed archives, if they agree with all results
abbrev pub held_by : Record → Option (List (List ℕ))
held_by noted = held_after noted.supposed noted.calls

-- this call was noted and no other, and the same is supposed
abbrev pub Notes : Call → Record → Record → Type 0
Notes call old new = (new.supposed ≡ old.supposed) × (new.calls ≡ call ∷ old.calls)

-- the call that a read notes, if the slice has these bytes afterwards
abbrev pub call_of_read : {E : Type 0} → Result ℕ E → List ℕ → Call
call_of_read (Ok n) into = read_next (Some (take n into))
call_of_read (Err e) into = read_next None

-- the call that a read of an archive at an offset notes, if the slice has these bytes afterwards
abbrev pub call_of_read_at : {E : Type 0} → ℕ → ℕ → Result ℕ E → List ℕ → Call
call_of_read_at archive offset (Ok n) into = read_at archive offset (Some (take n into))
call_of_read_at archive offset (Err e) into = read_at archive offset None

-- the call that a look at the length of an archive notes
abbrev pub call_of_length : {E : Type 0} → ℕ → Result ℕ E → Call
call_of_length archive (Ok length) = measured archive (Some length)
call_of_length archive (Err e) = measured archive None

-- the call that a write of these bytes notes
abbrev pub call_of_write : {E : Type 0} → Result ℕ E → List ℕ → Call
call_of_write (Ok n) bytes = written (Some (take n bytes))
call_of_write (Err e) bytes = written None

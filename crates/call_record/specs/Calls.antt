-- The calls of a run with their results, and whether bytes agree with these.
use Rattle.std.specs.Prelude.{ℕ, nat_lt, nat_eq, Bool, true, ◌&&◌, ◌||◌, if◌then◌else◌, List, [], ◌∷◌, ◌++◌, length}
use Rattle.std.specs.Prelude.{take, drop, bytes_eq, Option, None, Some}
use Rattle.contract_words.specs.Archives.{archive_at}

-- A call with its result. None is a failure, which says nothing about bytes.
pub data Call : Type 0 where
  -- a source was read further and gave these bytes; no bytes only at its end
  read_next : Option (List ℕ) → Call
  -- the archive of this number was read from this offset on and gave these bytes; no bytes only at its end
  read_at : ℕ → ℕ → Option (List ℕ) → Call
  -- the length of the archive of this number was read
  measured : ℕ → Option ℕ → Call
  -- an output took these bytes
  written : Option (List ℕ) → Call

-- A run's calls are a list, the newest first.

-- whether a read may give `got` if these bytes are left: they are the first ones, and none only if no byte is left
unfoldable pub is_front : List ℕ → List ℕ → Bool
is_front got bytes = bytes_eq (take (length got) bytes) got && (nat_lt 0 (length got) || nat_eq (length bytes) 0)

-- what is left of a source's bytes after one more call; None if they don't agree with its result
abbrev pub left_by : Call → Option (List ℕ) → Option (List ℕ)
left_by call None = None
left_by (read_next None) (Some bytes) = Some bytes
left_by (read_next (Some got)) (Some bytes) = if is_front got bytes then Some (drop (length got) bytes) else None
left_by (read_at n offset told) (Some bytes) = Some bytes
left_by (measured n told) (Some bytes) = Some bytes
left_by (written told) (Some bytes) = Some bytes

-- what is left of a source's bytes after these calls; None if they don't agree with all results
abbrev pub left_after : List ℕ → List Call → Option (List ℕ)
left_after bytes [] = Some bytes
left_after bytes (call ∷ earlier) = left_by call (left_after bytes earlier)

-- the bytes that a call gave from a source
abbrev pub given_by : Call → List ℕ
given_by (read_next None) = []
given_by (read_next (Some got)) = got
given_by (read_at n offset told) = []
given_by (measured n told) = []
given_by (written told) = []

-- all bytes that a source gave
abbrev pub given_after : List Call → List ℕ
given_after [] = []
given_after (call ∷ earlier) = given_after earlier ++ given_by call

-- whether the archives' bytes agree with the result of a call
abbrev pub agrees_with : Call → List (List ℕ) → Bool
agrees_with (read_next told) archives = true
agrees_with (read_at n offset None) archives = true
agrees_with (read_at n offset (Some got)) archives = is_front got (drop offset (archive_at archives n))
agrees_with (measured n None) archives = true
agrees_with (measured n (Some size)) archives = nat_eq size (length (archive_at archives n))
agrees_with (written told) archives = true

-- the archives' bytes; None if they don't agree with all results
abbrev pub held_after : List (List ℕ) → List Call → Option (List (List ℕ))
held_after archives [] = Some archives
held_after archives (call ∷ earlier) = if agrees_with call archives then held_after archives earlier else None

-- the bytes that an output took in a call
abbrev pub taken_by : Call → List ℕ
taken_by (read_next told) = []
taken_by (read_at n offset told) = []
taken_by (measured n told) = []
taken_by (written None) = []
taken_by (written (Some bytes)) = bytes

-- all bytes that an output took
abbrev pub taken_after : List Call → List ℕ
taken_after [] = []
taken_after (call ∷ earlier) = taken_after earlier ++ taken_by call

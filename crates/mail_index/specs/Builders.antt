-- The table that an index builder has so far, and what its calls change in it.
use Rattle.std.specs.Prelude.{◌≡◌, ℕ, ◌+◌, ◌<◌, ◌≤◌, Bool, true, false, nat_eq, if◌then◌else◌, List, [], ◌∷◌, ◌++◌}
use Rattle.std.specs.Prelude.{length, Option, Some, None, IsSome, unwrap_or, Result, Ok, Err}
use Rattle.std.specs.Ordering.{match_ordering}
use Rattle.mail_index.specs.declared.build.build_fault.BuildFault.{BuildFault}
use Rattle.mail_index.specs.declared.build.build_fault.BuildFault.TheVariants.{OutOfMemory, TooMany, Failed}
use Rattle.mail_index.specs.declared.build.build_fault.WriteFault.{WriteFault}
use Rattle.mail_index.specs.declared.build.build_fault.WriteFault.TheVariants.{Out}
use Rattle.mail_index.specs.declared.kind.Kind.{Kind}
use Rattle.mail_index.specs.declared.record.Record.{Record}
use Rattle.mail_index.specs.Kinds.{kind_number}
use Rattle.mail_index.specs.Versions.{newest}
use Rattle.mail_index.specs.Tables.{Key, Table}
use Rattle.mail_index.specs.PostingLists.{with_number}
use Rattle.mail_index.specs.Limits.{most_in_archive}
use Rattle.mail_index.specs.OrderOfKeys.{key_cmp}

-- the keys, in the order of kind and text, with n among the numbers of this key
abbrev pub with_pair : Kind → List ℕ → ℕ → List Key → List Key
with_pair kind text n [] = record { kind = kind; text = text; numbers = n ∷ [] } ∷ []
with_pair kind text n (k ∷ ks) = match_ordering (key_cmp (kind_number kind) text (kind_number k.kind) k.text)
    (record { kind = kind; text = text; numbers = n ∷ [] } ∷ k ∷ ks)
    (record { kind = k.kind; text = k.text; numbers = with_number k.numbers n } ∷ ks)
    (k ∷ with_pair kind text n ks)

-- what a builder was given so far: a table, the path of the open archive if there is one, and whether a message is
-- open; and whether a call has failed
pub record Draft : Type 0 where
  pub most : ℕ
  pub path : Option (List ℕ)
  pub in_message : Bool
  pub table : Table
  pub failed : Bool

-- a draft without archives, messages and keys
abbrev pub empty_draft : ℕ → Draft
empty_draft most = record {
  most = most;
  path = None;
  in_message = false;
  table =
      record { version = newest; archives = []; messages = []; keys = [] };
  failed = false;
}

-- a call has failed, and nothing is left
abbrev pub IsLost : Draft → Type 0
IsLost d = d ≡ record (empty_draft d.most) { failed = true }

-- the draft with an open archive that has this path
abbrev pub draft_in_archive : List ℕ → Draft → Draft
draft_in_archive path d = record d { path = Some path }

-- the draft with an open message
abbrev pub draft_in_message : Draft → Draft
draft_in_message d = record d { in_message = true }

-- the draft with this key added to the open message, whose number counts the messages of all archives
abbrev pub draft_with_key : Kind → List ℕ → Draft → Draft
draft_with_key kind text d = record d {
  table =
      record d.table { keys = with_pair kind text (length d.table.messages) d.table.keys };
}

-- the open message has this key already: adding it changes nothing
abbrev pub HasPair : Kind → List ℕ → Draft → Type 0
HasPair kind text d = with_pair kind text (length d.table.messages) d.table.keys ≡ d.table.keys

-- the draft with its open message ended, which has this record
abbrev pub draft_after_message : Record → Draft → Draft
draft_after_message r d = record d {
  in_message = false;
  table =
      record d.table { messages = d.table.messages ++ r ∷ [] };
}

-- the draft with its open archive ended, which has this length and this digest
abbrev pub draft_after_archive : ℕ → List ℕ → Draft → Draft
draft_after_archive n digest d = record d {
  path = None;
  table =
      record d.table {
        archives = d.table.archives ++ record
            { path = unwrap_or d.path []; length = n; digest = Some digest } ∷ [];
      };
}

-- the fault of a call that would make this count: there is no memory, the count is above the limit, or an earlier call
-- has failed
abbrev pub IsBuildRefusal : ℕ → Draft → BuildFault → Type 0
IsBuildRefusal count d OutOfMemory = d.failed ≡ false
IsBuildRefusal count d TooMany = (d.failed ≡ false) × (d.most < count)
IsBuildRefusal count d Failed = d.failed ≡ true

-- A call has made a draft of the one before, and this count, which is within the limit. After a fault nothing is left,
-- and every later call fails.
abbrev pub Makes : {T : Type 0} → Draft → ℕ → Result T BuildFault → Draft → Draft → Type 0
Makes made count (Ok _) old new = (old.failed ≡ false) × (count ≤ old.most) × (new ≡ made)
Makes made count (Err fault) old new = IsBuildRefusal count old fault × IsLost new

-- whether the call failed because the output did
abbrev pub is_output_failure : Result ℕ WriteFault → Bool
is_output_failure (Err Out) = true
is_output_failure _ = false

-- ---- what the caller must meet

-- the number of archives that have ended
abbrev pub archive_count : Draft → ℕ
archive_count d = length d.table.archives

-- where the last message ends, if it belongs to this archive; otherwise 0
abbrev pub end_of : ℕ → List Record → ℕ
end_of archive [] = 0
end_of archive (r ∷ []) = if nat_eq r.archive archive then r.offset + r.length else 0
end_of archive (r ∷ s ∷ rs) = end_of archive (s ∷ rs)

-- the record is right for the next message of the open archive, which comes after those before it
pub record IsNextMessage (d : Draft) (r : Record) : Type 0 where
  pub archive : r.archive ≡ archive_count d
  pub after : end_of (archive_count d) d.table.messages ≤ r.offset
  pub within : r.offset + r.length ≤ most_in_archive
  pub size : r.size < r.length

-- no archive is open, and no message; unless a call has failed
abbrev pub IsBetweenArchives : Draft → Type 0
IsBetweenArchives d = d.failed ≡ false → (d.path ≡ None) × (d.in_message ≡ false)

-- an archive is open, and no message; unless a call has failed
abbrev pub IsInArchive : Draft → Type 0
IsInArchive d = d.failed ≡ false → IsSome d.path × (d.in_message ≡ false)

-- an archive is open, and a message; unless a call has failed
abbrev pub IsInMessage : Draft → Type 0
IsInMessage d = d.failed ≡ false → IsSome d.path × (d.in_message ≡ true)

-- no count is above the limit
pub record IsWithinMost (d : Draft) : Type 0 where
  pub archives : length d.table.archives ≤ d.most
  pub messages : length d.table.messages ≤ d.most
  pub keys : length d.table.keys ≤ d.most

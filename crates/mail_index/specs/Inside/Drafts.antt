-- A draft as the code keeps it, and what is true of every draft.
use Rattle.std.specs.Prelude.{◌≡◌, ℕ, suc, ◌<◌, ◌≤◌, Bool, true, if◌then◌else◌, List, [], ◌∷◌, ◌++◌, length, map}
use Rattle.std.specs.Prelude.{Option, None, Some, IfSome, String, string_bytes}
use Rattle.std.specs.Global.{Global}
use Rattle.std.specs.Option.{option_map}
use Rattle.std.specs.List.{AllByRecursion}
use Rattle.mail_index.specs.declared.build.builder.NamedArchive.{NamedArchive}
use Rattle.mail_index.specs.declared.record.Record.{Record}
use Rattle.mail_index.specs.Versions.{newest}
use Rattle.mail_index.specs.Tables.{Archive, Key, IsPath, IsArchive, IsMessage, Follows, AllNext, KeyBefore, IsKey}
use Rattle.mail_index.specs.Builders.{Draft, IsLost}
use Rattle.mail_index.specs.Limits.{most_in_archive, most_in_index}

-- an archive that has ended, as the table has it
abbrev pub kept_archive : NamedArchive → Archive
kept_archive a = record { path = string_bytes a.path; length = a.length; digest = Some a.digest }

-- the draft of these fields
abbrev pub draft_of_fields : ℕ → Option (String Global) → Bool → List NamedArchive → List Record → List Key → Bool
    → Draft
draft_of_fields most path in_message archives records keys failed = record {
  most = most;
  path = option_map string_bytes path;
  in_message = in_message;
  table = record { version = newest; archives = map kept_archive archives; messages = records; keys = keys };
  failed = failed;
}

-- the number of messages, with the open one
abbrev pub message_count : Draft → ℕ
message_count d = if d.in_message then suc (length d.table.messages) else length d.table.messages

-- the archives, with the open one, which may become as long as any
abbrev pub with_open : List Archive → Option (List ℕ) → List Archive
with_open archives None = archives
with_open archives (Some path) = archives ++ record { path = path; length = most_in_archive; digest = None } ∷ []

-- no count is above the limit, with what is open counted too, and all so far is as in a well-formed table; nothing is
-- left after a fault
pub record IsDraft (d : Draft) : Type 0 where
  pub version : d.table.version ≡ newest
  pub limit : d.most ≤ most_in_index
  pub archives : length d.table.archives ≤ d.most
  pub open_archive : IfSome d.path (λ p. (length d.table.archives < d.most) × IsPath p)
  pub messages : length d.table.messages ≤ d.most
  pub open_message : d.in_message ≡ true → length d.table.messages < d.most
  pub keys : length d.table.keys ≤ d.most
  pub named : AllByRecursion (IsArchive newest) d.table.archives
  pub placed : AllByRecursion (IsMessage (with_open d.table.archives d.path)) d.table.messages
  pub in_order : AllNext Follows d.table.messages
  pub listed : AllByRecursion (IsKey newest (message_count d)) d.table.keys
  pub sorted : AllNext KeyBefore d.table.keys
  pub freed : d.failed ≡ true → IsLost d

-- The first entry of some entries of a directory.
use Rattle.std.specs.Prelude.{◌≡◌, ℕ, ◌+◌, ◌*◌, ◌<◌, ◌≤◌, List, length, drop}
use Rattle.mail_index.specs.Kinds.{kind_number, kind_of_number}
use Rattle.mail_index.specs.Fields.{byte_at, u32_at, u64_at}
use Rattle.mail_index.specs.Directory.{end_before, list_at}
use Rattle.mail_index.specs.PostingReads.{ArePosted}
use Rattle.mail_index.specs.Limits.{four_byte_limit}
use Rattle.mail_index.specs.Places.{entry_size, kind_at, text_length_at, text_place_at, posting_place_at}

-- the entries are whole; the first has a kind, and its text and its postings are within these texts and postings
pub record IsInFront (texts postings entries : List ℕ) : Type 0 where
  pub long : entry_size ≤ length entries
  pub whole : entry_size < length entries → 2 * entry_size ≤ length entries
  pub kind : kind_number (kind_of_number (byte_at entries kind_at)) ≡ byte_at entries kind_at
  pub text : u64_at entries text_place_at + u32_at entries text_length_at ≤ length texts
  pub begins : u64_at entries posting_place_at < end_before (drop entry_size entries) (length postings)
  pub ends : end_before (drop entry_size entries) (length postings) ≤ length postings
  pub posted : ArePosted four_byte_limit 0 (list_at postings entries)

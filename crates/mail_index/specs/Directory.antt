-- The entries of a directory, read one after another. For bytes that are in no table's file these definitions may say
-- anything.
use Rattle.std.specs.Prelude.{◌≡◌, ℕ, zero, suc, ◌+◌, ◌-◌, ◌<◌, ◌≤◌, Bool, true, ◌&&◌, nat_eq, cond, List, [], ◌∷◌}
use Rattle.std.specs.Prelude.{length, take, drop}
use Rattle.std.specs.declared.cmp.Ordering.TheVariants.{Less}
use Rattle.mail_index.specs.Kinds.{is_kind_number, kind_of_number}
use Rattle.mail_index.specs.Versions.{last_kind}
use Rattle.mail_index.specs.Fields.{byte_at, u32_at, u64_at, are_zeros_at}
use Rattle.mail_index.specs.Places.{entry_size, kind_at, entry_zeros_at, text_length_at, text_place_at}
use Rattle.mail_index.specs.Places.{posting_place_at}
use Rattle.mail_index.specs.Files.{DirectoryEntry}
use Rattle.mail_index.specs.OrderOfKeys.{key_cmp}

-- the first byte is the number of a kind that the version has, and three zeros follow
unfoldable pub is_entry : ℕ → List ℕ → Bool
is_entry version d = is_kind_number (last_kind version) (byte_at d kind_at) && are_zeros_at d entry_zeros_at

-- where the postings of the entry before this directory end: where those of its first entry begin, or at the end of all
-- if there is no entry
abbrev pub end_before : List ℕ → ℕ → ℕ
end_before d total = cond (nat_eq (length d) 0) total (u64_at d posting_place_at)

-- the text of the directory's first entry
abbrev pub text_at : List ℕ → List ℕ → List ℕ
text_at texts d = take (u32_at d text_length_at) (drop (u64_at d text_place_at) texts)

-- the postings of the directory's first entry
abbrev pub list_at : List ℕ → List ℕ → List ℕ
list_at postings d = take (end_before (drop entry_size d) (length postings) - u64_at d posting_place_at)
    (drop (u64_at d posting_place_at) postings)

-- the directory's first entry, with its text and its postings
unfoldable pub read_entry : List ℕ → List ℕ → List ℕ → DirectoryEntry
read_entry texts postings d = record {
  kind = kind_of_number (byte_at d kind_at);
  text = text_at texts d;
  postings = list_at postings d;
}

-- this many entries, one after another
abbrev pub read_entries : List ℕ → List ℕ → ℕ → List ℕ → List DirectoryEntry
read_entries texts postings zero d = []
read_entries texts postings (suc n) d =
    read_entry texts postings d ∷ read_entries texts postings n (drop entry_size d)

-- ---- the entries of a directory, from where the texts and the postings of an earlier one ended

-- The directory's first entry may come at these places: its text begins at `text_place` and its postings at `place`,
-- both have some bytes and stay within their sections, and its key comes after the key of this kind's number and this
-- text.
pub record IsEntryAt (version : ℕ) (texts : List ℕ) (total text_place place number : ℕ) (text d : List ℕ) : Type 0 where
  pub spelled : is_entry version d ≡ true
  pub text_begins : u64_at d text_place_at ≡ text_place
  pub begins : u64_at d posting_place_at ≡ place
  pub some_text : 0 < u32_at d text_length_at
  pub within : text_place + u32_at d text_length_at ≤ length texts
  pub some : place < end_before (drop entry_size d) total
  pub end : end_before (drop entry_size d) total ≤ total
  pub after : key_cmp number text (byte_at d kind_at) (text_at texts d) ≡ Less

-- this many entries may come from these places on, each after the one before it, and they end where the texts and the
-- postings end
abbrev pub AreEntries : ℕ → List ℕ → ℕ → ℕ → ℕ → ℕ → List ℕ → ℕ → List ℕ → Type 0
AreEntries version texts total text_place place number text zero d = (text_place ≡ length texts) × (place ≡ total)
AreEntries version texts total text_place place number text (suc n) d =
    IsEntryAt version texts total text_place place number text d
    × AreEntries version texts total (text_place + u32_at d text_length_at) (end_before (drop entry_size d) total)
    (byte_at d kind_at) (text_at texts d) n (drop entry_size d)

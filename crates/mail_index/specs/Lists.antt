-- The posting lists of a directory's entries.
use Rattle.std.specs.Prelude.{ℕ, zero, suc, ◌<◌, List, drop, length}
use Rattle.mail_index.specs.Places.{entry_size}
use Rattle.mail_index.specs.Directory.{list_at}
use Rattle.mail_index.specs.PostingReads.{ArePosted}

-- one or more rising numbers below `messages`
abbrev pub IsList : ℕ → List ℕ → Type 0
IsList messages list = (0 < length list) × ArePosted messages 0 list

-- the postings of each of this many entries are such a list
abbrev pub AreLists : ℕ → List ℕ → ℕ → List ℕ → Type 0
AreLists messages postings zero d = Unit {0}
AreLists messages postings (suc n) d =
    IsList messages (list_at postings d) × AreLists messages postings n (drop entry_size d)

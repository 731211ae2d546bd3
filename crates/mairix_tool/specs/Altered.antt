-- Which archives aren't those that were indexed.
use Rattle.std.specs.Prelude.{◌≡◌, ℕ, List, Contains, Option}
use Rattle.std.specs.Option.{option_or}
use Rattle.sha2.specs.Sha256.{sha256}
use Rattle.index_job.specs.ArchiveTables.{Mbox, table}
use Rattle.mail_answer.specs.Verified.{unverified_archive}
use Rattle.mairix_tool.specs.Runs.{renamed_archive}

-- SHA-256 distinguishes these texts: no two of them that differ have the same digest.
abbrev pub HaveDistinctDigests : List (List ℕ) → Type 0
HaveDistinctDigests all = (x y : List ℕ) → Contains all x → Contains all y → sha256 x ≡ sha256 y → x ≡ y

-- The first of the indexed archives that has another path now; if their numbers differ, the smaller number; otherwise
-- the first with other bytes, by number, length, then digest.
abbrev pub altered_archive : List Mbox → List (List ℕ) → List (List ℕ) → Option ℕ
altered_archive before paths bytes = option_or (renamed_archive (table before).archives paths)
    (unverified_archive (table before).archives bytes)

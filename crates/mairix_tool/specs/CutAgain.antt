-- The messages of archives, as an mbox answer over their table has them.
use Rattle.std.specs.Prelude.{ℕ, List, map}
use Rattle.mail_answer.specs.Shapes.{span}
use Rattle.mail_answer.specs.TableFacts.{record_at}
use Rattle.index_job.specs.ArchiveTables.{Mbox, table}

-- the bytes of the archives
abbrev pub bytes_of_archives : List Mbox → List (List ℕ)
bytes_of_archives archives = map (λ a. a.bytes) archives

-- the spans of the messages with these numbers
abbrev pub spans_at : List Mbox → List ℕ → List (List ℕ)
spans_at archives numbers = map (λ n. span (bytes_of_archives archives) (record_at (table archives).messages n)) numbers

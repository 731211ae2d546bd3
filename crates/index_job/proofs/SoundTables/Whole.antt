-- The table of archives is well-formed if each has a path, none is refused, and all together are within the limits.
use Rattle.index_job.proofs.Words.{◌≡◌, All, List, [], ◌∷◌, map, None, arith, AllByRecursion, recursion_from_All, most_in_archive, IsPath, IsArchive, IsWellFormed, newest, archive_refusal, AreSound, Mbox, entry_of_archive, table}
use Rattle.sha2.proofs.Facts256.{length-sha256}
use Rattle.index_job.proofs.SoundTables.Keys.{messages-listed, messages-sorted}
use Rattle.index_job.proofs.SoundTables.Records.{records-in-order, records-placed}
use Rattle.index_job.proofs.SoundTables.Spans.{unrefused-short}
use Rattle.index_job.proofs.TableSteps.{records-count}

archives-named : (archives : List Mbox) → AllByRecursion (λ (a : Mbox). IsPath a.path) archives
    → AllByRecursion (λ (a : Mbox). archive_refusal most_in_archive a.bytes ≡ None) archives
    → AllByRecursion (IsArchive newest) (map entry_of_archive archives)
archives-named [] _ _ = tt
archives-named (a ∷ archives) paths sound =
    grind (arith, unrefused-short, length-sha256, archives-named archives paths.1 sound.1)

pub sound-table : (archives : List Mbox) → All (λ (a : Mbox). IsPath a.path) archives → AreSound archives
    → IsWellFormed (table archives)
sound-table _ paths sound = grind (
  arith,
  records-count,
  archives-named,
  recursion_from_All,
  records-placed,
  records-in-order,
  messages-listed,
  messages-sorted,
)

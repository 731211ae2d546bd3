-- What reads leave of a part of an archive.
use Rattle.std.specs.Prelude.{◌≡◌, ◌≤◌, ◌<◌}
use Rattle.mail_answer.specs.Inside.Calls.{KeepsArchives}
use Rattle.mail_answer.specs.Inside.Readings.{reading, ReadsUntil}
use Rattle.mail_answer.specs.Pieces.{EndsWithin}
use Rattle.mail_answer.specs.declared.archives.Archives.{Ghosts}
use Rattle.mail_answer.specs.declared.output.archive_part.ArchivePart.{ArchivePart}

-- the part was read, any number of times
pub record ReadsPart {A : Type 0} (g : Ghosts A) (first now : ArchivePart A g) : Type 0 where
  -- it still reads the same archives
  pub name : now.archives.ghost_name ≡ first.archives.ghost_name
  pub keeps : KeepsArchives g first.archives.now now.archives.now
  -- no count of failures goes down
  pub failures : g.failures first.archives.now ≤ g.failures now.archives.now
  pub early_ends : first.early_ends ≤ now.early_ends
  -- unless a read failed, it was read from where it was to where it is
  pub read : g.failures now.archives.now ≡ g.failures first.archives.now → now.early_ends ≡ first.early_ends
      → ReadsUntil g first.archives.now now.archives.now (reading first.archive first.next first.left)
      (reading now.archive now.next now.left)
  -- if no read failed but the one that found that the archive had ended, that was the last read
  pub ended : g.failures now.archives.now ≡ g.failures first.archives.now → first.early_ends < now.early_ends
      → EndsWithin g first.archive first.next first.left first.archives.now now.archives.now

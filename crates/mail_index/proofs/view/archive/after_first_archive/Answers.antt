-- `after_first_archive` passes front, path and digest, for which there is room, because the bytes begin with an
-- archive.
use Rattle.mail_index.proofs.Words.{arith, version_number, u32_at, after_path}
use Rattle.mail_index.proofs.ViewLaws.ArchiveReads.{front_of_some, after_value, after_some}
use Rattle.mail_index.proofs.view.archive.after_first_archive.Goals as goal

pub split_at-requires-2 : goal.split_at-requires-2
split_at-requires-2 c = grind (arith, front_of_some, version_number)

pub split_at-requires-3 : goal.split_at-requires-3
split_at-requires-3 c = grind (arith, front_of_some, version_number, u32_at, after_path)

pub returns-clause-value : goal.returns-clause-value
returns-clause-value c = grind (arith, after_value, version_number)

pub returns-clause-spelled : goal.returns-clause-spelled
returns-clause-spelled c = after_some _ _ _ _ c.requires.some c.requires.spelled (returns-clause-value c)

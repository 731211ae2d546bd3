-- Unaltered archives are those that were indexed, because paths and digests are compared.
use Rattle.mairix_tool.proofs.ReplyLaws.Stored.{none-altered}
use Rattle.mairix_tool.proofs.ArchiveLaws.Unaltered.{the-same}
use Rattle.mairix_tool.proofs.laws.unaltered_archives_are_those_indexed.Goals as goal

pub returns-clause-only : goal.returns-clause-only
returns-clause-only c = λ before paths bytes apart none. (the-same before paths bytes apart none).1

pub returns-clause-all : goal.returns-clause-all
returns-clause-all c = none-altered

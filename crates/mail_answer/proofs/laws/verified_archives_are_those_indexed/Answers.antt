-- Archives are verified exactly if they are those that were indexed, archive by archive.
use Rattle.mail_answer.proofs.ArchiveLaws.VerifiedLemmas.{verified_are, are_verified}
use Rattle.mail_answer.proofs.laws.verified_archives_are_those_indexed.Goals as goal

pub returns-clause-only : goal.returns-clause-only
returns-clause-only c = verified_are

pub returns-clause-all : goal.returns-clause-all
returns-clause-all c = are_verified

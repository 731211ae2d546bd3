-- `verify` finds the first altered archive, because it compares digests only if no length has changed.
use Rattle.mail_answer.proofs.Words.{◌∙◌, ◌<◌, ℕ, List, Ok, length, ap, subst, arith, AreVerified}
use Rattle.mail_answer.specs.Faults.{has_fault, is_of_archives, IfStale}
use Rattle.mail_answer.specs.Verified.{LooksThrough}
use Rattle.mail_answer.proofs.ArchiveLaws.CallLemmas.{holds_join}
use Rattle.mail_answer.proofs.ArchiveLaws.KnowledgeLemmas.{some_later}
use Rattle.mail_answer.proofs.ArchiveLaws.VerifiedLemmas.{told_by_digests, read_of_all, unsent_kind, unsent_ok, unsent_err, unsent_written, unsent_fails, always_ok}
use Rattle.mail_answer.proofs.archives.verified.verify.Goals as goal

pub check_digests-requires-clause-indexed : goal.check_digests-requires-clause-indexed
check_digests-requires-clause-indexed g c =
    record {
      number = c.check_archives.ensures.keeps.number ∙ (rw c.in_default.is at c.check_archives.ensures.same_count);
      fresh = rw c.in_default.is at c.check_archives.ensures.stale;
    }

pub check_digests-requires-clause-count : goal.check_digests-requires-clause-count
check_digests-requires-clause-count g c =
    let same = rw c.in_default.is at c.check_archives.ensures.count in omega (arith, same, c.requires.archives)

pub returns-clause-keeps : goal.returns-clause-keeps
returns-clause-keeps g c =
    let reads = c.check_digests.ensures.keeps in
    holds_join _ _ _ _
    c.check_archives.ensures.keeps (record { held = reads.held; was = reads.was; number = reads.number })

pub returns-clause-verified : goal.returns-clause-verified
returns-clause-verified g c =
    rw (unsent_kind _ _ c.map_err.ensures.cases) at
    (told_by_digests _ _ _
    (some_later _
    _ _
    c.check_digests.ensures.keeps.held
    (rw c.again-index.ensures.same at (rw c.in_default.is at c.check_archives.ensures.stale)))
    (rw c.again-index.ensures.same at c.check_digests.ensures.altered))

pub returns-clause-read : goal.returns-clause-read
returns-clause-read g c =
    unsent_ok ((read : List (List ℕ)) × AreVerified c.args.index.now.archives read) _
    (rw (unsent_kind _ _ c.map_err.ensures.cases) at
    (read_of_all _ _ _ _
    _ (rw c.again-index.ensures.same at c.check_digests.ensures.found)))

pub returns-clause-same_count : goal.returns-clause-same_count
returns-clause-same_count g c =
    always_ok _ _ (rw c.again-index.ensures.same at
    (rw c.in_default.is at c.check_archives.ensures.same_count))

pub returns-clause-found : goal.returns-clause-found
returns-clause-found g c = λ same.
    let asked = rw c.again-index.ensures.same at (rw c.in_default.is at c.check_archives.ensures.asked) in
    let kind = unsent_kind _ _ c.map_err.ensures.cases in
    record {
      through = subst (LooksThrough g.A.Archives c.args.index.now.archives c.args.archives.now
          c.check_digests.new.archives) kind (
            c.check_archives.new.archives,
            Ok c.in_default.field-0,
            asked same,
            (c.check_digests.ensures.keeps.held, rw c.again-index.ensures.same at c.check_digests.ensures.found),
          );
      below = unsent_err (λ kind. IfStale kind (λ n. n < length c.args.index.now.archives)) _
          (rw (kind, c.again-index.ensures.same) at c.check_digests.ensures.below);
    }

pub returns-clause-archives_count : goal.returns-clause-archives_count
returns-clause-archives_count g c =
    let same = rw c.in_default.is at c.check_archives.ensures.count in
    rw (ap (has_fault is_of_archives) (unsent_kind c.check_digests.result c.map_err.result c.map_err.ensures.cases)
    ∙ unsent_fails is_of_archives c.map_err.result) at (rw same at c.check_digests.ensures.count)

pub returns-clause-unwritten : goal.returns-clause-unwritten
returns-clause-unwritten g c = unsent_written _ _ c.map_err.ensures.cases
    c.check_digests.ensures.own

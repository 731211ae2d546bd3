-- `check_archives` finds the first changed archive, because it compares one length after another.
use Rattle.mail_answer.proofs.Words.{◌≡◌, ◌∙◌, Ok, IfSome, length, drop, subst, sym, arith, Agree, Archive, archive_of, archive_at, first_changed}
use Rattle.mail_answer.proofs.ArchiveLaws.AskedLemmas.{agree_more}
use Rattle.mail_answer.proofs.ArchiveLaws.KnowledgeLemmas.{some_later, was_known_join}
use Rattle.mail_answer.proofs.ArchiveLaws.StaleLemmas.{goes_on, named_here, next_named, none_left}
use Rattle.mail_answer.proofs.ArchiveLaws.CallLemmas.{holds_join}
use Rattle.mail_answer.proofs.archives.stale.check_archives.Goals as goal

pub loop-archive-preserved : goal.loop-archive-preserved
loop-archive-preserved g c =
    let i = c.loop-archive.invariant in
    let named = c.args.index.now.archives in
    let a : Archive = archive_of c.in-Some.archive in
    let coming = sym i.coming ∙ c.in-Some.ensures in
    let lt = named_here named c.loop-archive.n a c.next.new.self coming in
    let step = next_named named c.loop-archive.n a c.next.new.self coming in
    let told : c.length.result ≡ Ok a.length = grind arith in
    let held = g.A.Archives.held c.length.new.self in
    let was = c.length.ensures.held in
    let n = c.loop-archive.n in
    let number = g.A.Archives.number c.args.archives.now in
    let known : IfSome held (λ bytes. a.length ≡ length (archive_at bytes n)) = rw told at c.length.ensures.bytes in
    let count = some_later (λ archives. length archives ≡ number) (g.A.Archives.held c.args.archives.now) held
    (was_known_join _ _ held i.keeps.held was) c.count-count.ensures.1 in
    let so_far = some_later (λ bytes. first_changed 0 named bytes ≡ first_changed n (drop n named) (drop n bytes))
    (g.A.Archives.held c.loop-archive.archives) held was i.so_far in
    record {
      within = omega (arith, lt);
      coming = sym step.1;
      keeps = holds_join g.A.Archives _ _ _ i.keeps
          (record { held = was; was = c.length.ensures.was; number = c.length.ensures.number });
      count = (rw told at c.length.ensures.count) ∙ i.count;
      agree = agree_more g.A.Archives named c.loop-archive.n (g.A.Archives.number c.args.archives.now) a c.next.new.self
          c.args.archives.now c.loop-archive.archives c.length.new.self
          (omega (arith, lt)) (omega arith) coming was count known (rw told at c.length.ensures.measured) i.agree;
      so_far = goes_on named held n number lt (omega arith) count so_far (rw step.0 known);
    }

pub returns-then-length-archive-clause-asked : goal.returns-then-length-archive-clause-asked
returns-then-length-archive-clause-asked = grind (arith, next_named, named_here)

pub returns-clause-asked : goal.returns-clause-asked
returns-clause-asked g c =
    let i = c.loop-archive.invariant in
    λ _. subst (λ count. Agree g.A.Archives c.args.index.now.archives count c.args.archives.now c.loop-archive.archives)
    (none_left _ _ i.within (sym i.coming ∙ c.in_default.ensures.0)) i.agree

pub returns-then-count-indexed-clause-stale : goal.returns-then-count-indexed-clause-stale
returns-then-count-indexed-clause-stale = grind arith

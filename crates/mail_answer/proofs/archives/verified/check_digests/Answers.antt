-- `check_digests` finds the first altered archive, because it compares one digest after another.
use Rattle.mail_answer.proofs.Words.{◌≡◌, ◌∙◌, true, false, subst, bytes_eq, sym, arith, drop, None, AreReadOnce, Archive, archive_of, stale_archive}
use Rattle.mail_answer.proofs.ArchiveLaws.StaleLemmas.{named_here, next_named, none_left}
use Rattle.mail_answer.proofs.ArchiveLaws.VerifiedLemmas.{UnalteredTo, told_next, other_read, more_read}
use Rattle.mail_answer.proofs.ArchiveLaws.CallLemmas.{keeps_join}
use Rattle.mail_answer.proofs.ArchiveLaws.KnowledgeLemmas.{known_later, some_later, was_known_join}
use Rattle.std.specs.Option.{option_eq}
use Rattle.mail_answer.proofs.archives.verified.check_digests.Goals as goal

pub returns-then-ne-clause-altered : goal.returns-then-ne-clause-altered
returns-then-ne-clause-altered g c =
    let i = c.loop-archive.invariant in
    let coming = sym i.coming ∙ c.in-Some.ensures in
    let other : option_eq bytes_eq (archive_of c.in-Some.archive).digest c.in_ok-digest.digest ≡ false = grind arith in
    let named = c.args.index.now.archives in
    let held = g.A.Archives.held c.read_digest.new.archives in
    let was = c.in_ok-digest.ensures.keeps.held in
    let fresh = some_later _
    _ _ (was_known_join _ _ _ i.keeps.held was) c.requires.indexed.fresh in
    let so_far = known_later (λ known. UnalteredTo named known c.loop-archive.n (drop c.loop-archive.n named))
    _ _ was tt i.so_far in
    rw other at
    (told_next _ _ _ _ _ _
    (named_here _ _ _ _ coming) coming fresh so_far c.in_ok-digest.ensures.digest)

pub returns-then-ne-clause-found : goal.returns-then-ne-clause-found
returns-then-ne-clause-found g c =
    let i = c.loop-archive.invariant in
    let a = archive_of c.in-Some.archive in
    let read = c.in_ok-digest in
    let other : option_eq bytes_eq a.digest read.digest ≡ false = grind arith in
    record {
      here = a;
      after = c.next.new.self;
      place = sym i.coming ∙ c.in-Some.ensures;
      before = c.loop-archive.archives;
      read = i.read;
      last = other_read _ _ a _ _ _
          other read.ensures.read;
      held = read.ensures.keeps.held;
    }

pub loop-archive-preserved : goal.loop-archive-preserved
loop-archive-preserved g c =
    let i = c.loop-archive.invariant in
    let named = c.args.index.now.archives in
    let a : Archive = archive_of c.in-Some.archive in
    let read = c.in_ok-digest.digest in
    let coming = sym i.coming ∙ c.in-Some.ensures in
    let lt = named_here named c.loop-archive.n a c.next.new.self coming in
    let step = next_named named c.loop-archive.n a c.next.new.self coming in
    let same : option_eq bytes_eq a.digest read ≡ true = grind arith in
    let held = g.A.Archives.held c.read_digest.new.archives in
    let was = c.in_ok-digest.ensures.keeps.held in
    let fresh = some_later (λ archives. stale_archive named archives ≡ None)
    (g.A.Archives.held c.args.archives.now) held (was_known_join _ _ held i.keeps.held was) c.requires.indexed.fresh in
    let so_far = known_later (λ known. UnalteredTo named known c.loop-archive.n (drop c.loop-archive.n named))
    (g.A.Archives.held c.loop-archive.archives) held was tt i.so_far in
    record {
      within = omega (arith, lt);
      coming = sym step.1;
      keeps = keeps_join g.A.Archives _ _ _ i.keeps c.in_ok-digest.ensures.keeps;
      count = c.in_ok-digest.ensures.count ∙ i.count;
      read = more_read g.A.Archives named c.loop-archive.n a c.next.new.self read c.args.archives.now
          c.loop-archive.archives c.read_digest.new.archives
          lt coming (rw c.requires.version at c.requires.table.archives) fresh was same c.in_ok-digest.ensures.read
          i.read;
      so_far = rw step.1
          (rw same at
          (told_next named held c.loop-archive.n a c.next.new.self read lt coming fresh so_far
          c.in_ok-digest.ensures.digest));
    }

pub returns-clause-found : goal.returns-clause-found
returns-clause-found g c =
    let i = c.loop-archive.invariant in
    subst (λ count. AreReadOnce g.A.Archives c.args.index.now.archives count c.args.archives.now
    c.loop-archive.archives)
    (none_left _ _ i.within (sym i.coming ∙ c.in_default.ensures.0)) i.read

pub returns-then-ne-clause-keeps : goal.returns-then-ne-clause-keeps
returns-then-ne-clause-keeps = grind arith

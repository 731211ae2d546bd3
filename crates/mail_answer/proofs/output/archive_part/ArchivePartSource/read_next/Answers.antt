-- `read_next` gives the bytes that come first, because it reads the archive where they are.
use Rattle.mail_answer.proofs.Words.{◌-◌, ◌<◌, ◌≤◌, [], Ok, length, take, refl, ap, arith, rules, length-take-le, reading}
use Rattle.mail_answer.proofs.ArchiveLaws.CallLemmas.{keeps_join}
use Rattle.mail_answer.proofs.ArchiveLaws.KnowledgeLemmas.{inside_later}
use Rattle.mail_answer.proofs.OutputLaws.ArchiveParts.{ends_early, fresh_yet, gives_part, none_inside}
use Rattle.mail_answer.proofs.OutputLaws.PartReads.{until_ends, until_join, until_piece}
use Rattle.mail_answer.proofs.output.archive_part.ArchivePartSource.read_next.Goals as goal

pub invariant_of-self-then-n-eq0 : goal.invariant_of-self-then-n-eq0
invariant_of-self-then-n-eq0 g c =
    let part = c.args.self.now in
    let some : 0 < part.left = omega (arith, c.if-most-eq0.false, c.min.ensures, c.min-most.ensures) in
    let inside = inside_later _ _ _ _ c.in_ok-n.ensures.held part.inside in
    record {
      inside = none_inside _ _ part.archive part.next part.left (rw c.in_ok-n.ensures.number inside);
      fresh = λ _. ends_early _ _ _ _ _ some
          (ap (λ n. length (take n c.read_at.new.into)) c.if-n-eq0.true) c.in_ok-n.ensures.bytes inside.within;
      ended = λ _. refl;
    }

pub returns-then-n-eq0-clause-was : goal.returns-then-n-eq0-clause-was
returns-then-n-eq0-clause-was g c = λ first was.
    let part = c.args.self.now in
    let told = c.in_ok-n.ensures in
    let some : 0 < part.left = omega (arith, c.if-most-eq0.false, c.min.ensures, c.min-most.ensures) in
    let from = reading first.archive first.next first.left in
    let none : g.A.Archives.reads part.archives.now part.archive part.next (Ok []) c.read_at.new.self =
    rw c.if-n-eq0.true at told.read in
    record {
      name = was.name;
      keeps = keeps_join _ _ _ _ was.keeps
          (record { held = told.held; was = told.was; number = told.number; asked = told.asked });
      failures = omega (arith, was.failures, told.count);
      early_ends = omega (arith, was.early_ends);
      read = λ same ends. absurd (omega (arith, was.early_ends, ends));
      ended = λ same ends. until_ends _ _ _ _
          _ _
          (was.read (omega (arith, same, told.count))
          (fresh_yet _ _ _ some was.early_ends part.ended)) some none;
    }

pub returns-clause-was : goal.returns-clause-was
returns-clause-was g c = λ first was.
    let part = c.args.self.now in
    let told = c.in_ok-n.ensures in
    let n = c.in_ok-n.n in
    let some : 0 < n = omega (arith, c.if-n-eq0.false) in
    let le : n ≤ part.left = search rules in
    let from = reading first.archive first.next first.left in
    record {
      name = was.name;
      keeps = keeps_join _ _ _ _ was.keeps
          (record { held = told.held; was = told.was; number = told.number; asked = told.asked });
      failures = omega (arith, was.failures, told.count);
      early_ends = was.early_ends;
      read = λ same ends. until_join _ _ _
          _ _ _
          _
          (was.read (omega (arith, same, told.count)) ends)
          (until_piece _ _ _ _ n _ _
          _ told.read (length-take-le n c.read_at.new.into told.bound) some le);
      ended = λ same ends. absurd (omega (arith, part.ended (omega (arith, ends)), le, some));
    }

pub returns-clause-bytes : goal.returns-clause-bytes
returns-clause-bytes g c =
    let part = c.args.self.now in
    let some : 0 < c.in_ok-n.n = omega (arith, c.if-n-eq0.false) in
    let le : c.in_ok-n.n ≤ part.left = search rules in (
      gives_part _ _ _ _ _ _
          _
          _ some le c.in_ok-n.ensures.bound c.in_ok-n.ensures.held
          c.in_ok-n.ensures.bytes,
      λ zero room. absurd (c.if-n-eq0.false zero),
    )

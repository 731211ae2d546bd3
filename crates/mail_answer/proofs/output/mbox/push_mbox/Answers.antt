-- `push_mbox` adds a closed span, piece by piece, because the ending decides what closes it.
use Rattle.mail_answer.proofs.Words.{◌≡◌, ◌<◌, ◌∙◌, ℕ, Mbox, record_at, List, ◌++◌, length, length-append, Option, None, Some, ap, sym, refl, append-nil, arith, nat_tests, err_from_is_err_and, option_map, ending_of_bytes, feeds_of, Reading, bytes_left, span_reading, closed_text, stale_archive, IsIfKnown}
use Rattle.mail_answer.proofs.OutputLaws.CopiedPieces.{known_closed, pieces_more, front_told, closed_told, closed_begins, closed_by_last}
use Rattle.mail_answer.proofs.OutputLaws.PartReads.{ends_read, read_fresh, until_self, until_join, whole_read}
use Rattle.mail_answer.proofs.OutputLaws.SheetLemmas.{joins_gathered, joins_more, joins_front, front_more, writes_next, writes_less, writes_err, unsent_before, unsent_before_front, unsent_before_writes}
use Rattle.mail_answer.proofs.ArchiveLaws.CallLemmas.{keeps_self, keeps_join}
use Rattle.mail_answer.proofs.ArchiveLaws.IndexedLemmas.{message_inside, message_some}
use Rattle.mail_answer.proofs.ArchiveLaws.KnowledgeLemmas.{copied_later, some_later}
use Rattle.mail_answer.proofs.CursorLaws.TruthLists.{record_known}
use Rattle.mail_answer.proofs.output.mbox.push_mbox.Goals as goal

pub pieces-init : goal.pieces-init
pieces-init g c =
    let t = c.args.index.now in
    let m = record_at t.messages c.args.n in
    let is : c.message.result ≡ m = cc (c.message.ensures, record_known _ _ c.requires.below) in
    let part = c.of-part.ensures ∙ ap span_reading is in
    let inside = message_inside t _ _
    _ c.requires.table c.requires.below c.requires.indexed.number c.requires.indexed.fresh in
    rw part (grind (arith, keeps_self, joins_gathered, append-nil, inside, until_self))

pub copy_piece-requires-clause-some : goal.copy_piece-requires-clause-some
copy_piece-requires-clause-some = grind (arith, nat_tests)

pub pieces-preserved : goal.pieces-preserved
pieces-preserved g c =
    let held = g.A.Archives.held c.copy_piece.new.archives in
    let span = span_reading (record_at c.args.index.now.messages c.args.n) in
    let i = c.pieces.invariant in
    let j = i.joins in
    let w = c.in_ok-ending.ensures.copies in
    let so_far =
    copied_later _ _ _ _ _
    c.in_ok-ending.ensures.archives.keeps.held j.1 in
    record {
      keeps = keeps_join _ _ _ _ i.keeps c.in_ok-ending.ensures.archives.keeps;
      inside = c.in_ok-ending.ensures.inside;
      archive = c.in_ok-ending.ensures.archive ∙ i.archive;
      joins = (
        j.0 ++ w.0,
        so_far ∙ ap (option_map (λ bytes. j.0 ++ bytes)) w.1
            ∙ pieces_more _ _ _,
        w.3 j.0 j.2,
        joins_more j.3 w.2,
        omega (arith, j.4, w.4, length-append j.0 w.0),
      );
      read = until_join _ _ _ _ _ _
          _ i.read c.in_ok-ending.ensures.read;
      kept = λ unsent. c.in_ok-ending.ensures.out.kept unsent refl ∙ i.kept (unsent_before w.2 unsent);
      out_count = c.in_ok-ending.ensures.out.count ∙ i.out_count;
      archives_count = c.in_ok-ending.ensures.archives.count ∙ i.archives_count;
    }

pub returns-in_err-ending-clause-writes : goal.returns-in_err-ending-clause-writes
returns-in_err-ending-clause-writes g c =
    let held = g.A.Archives.held c.copy_piece.new.archives in
    let span = span_reading (record_at c.args.index.now.messages c.args.n) in
    let i = c.pieces.invariant in
    let j = i.joins in
    let w = c.in_err-ending.ensures.copies in
    let so_far =
    copied_later _ _ _ _ _
    c.in_err-ending.ensures.archives.keeps.held j.1 in
    let told = front_told _ _ _ _ so_far w.1 in
    rw (← known_closed _ _ _)
    (writes_err _ _ _
    _ _ _
    c.from_residual.ensures.0
    ((j.0 ++ w.0) ++ told.0, told.1, front_more _ (joins_front j.3 w.2)))

pub returns-in_err-ending-clause-out : goal.returns-in_err-ending-clause-out
returns-in_err-ending-clause-out = grind (arith, err_from_is_err_and, unsent_before_front)

pub returns-clause-writes : goal.returns-clause-writes
returns-clause-writes g c =
    let held : Option (List (List ℕ)) = g.A.Archives.held c.pieces.archives in
    let number : ℕ = g.A.Archives.number c.args.archives.now in
    let t = c.args.index.now in
    let span : Reading = span_reading (record_at t.messages c.args.n) in
    let i = c.pieces.invariant in
    let j = i.joins in
    let feeds : List ℕ = c.feeds.result.now in
    let none : c.pieces.part.left ≡ 0 = grind (arith, nat_tests) in
    let fresh = some_later (λ archives. stale_archive t.archives archives ≡ None)
    (g.A.Archives.held c.args.archives.now) held i.keeps.held
    c.requires.indexed.fresh in
    let inside = message_inside t held number c.args.n c.requires.table c.requires.below c.requires.indexed.number fresh
    in
    let told : IsIfKnown (option_map closed_text (bytes_left held span)) (j.0 ++ feeds_of (ending_of_bytes j.0)) =
    closed_told held number span c.pieces.part j.0 inside
    (omega (arith, message_some t c.args.n c.requires.table c.requires.below)) j.1 none
    (rw i.keeps.number at i.inside) in
    let same : feeds_of (ending_of_bytes j.0) ≡ feeds = ap feeds_of (sym j.2) ∙ sym c.feeds.ensures in
    rw (← known_closed c.args.index.now held c.args.n)
    (writes_less (g.O.Out.taken c.args.out.now) (g.O.Out.taken c.push.new.out) c.args.sheet.now c.push.new.self
    (option_map closed_text (bytes_left held span)) (j.0 ++ feeds) c.push.result (rw same at told)
    (writes_next (g.O.Out.taken c.args.out.now) (g.O.Out.taken c.pieces.out) (g.O.Out.taken c.push.new.out)
    c.args.sheet.now c.pieces.sheet c.push.new.self (Some j.0) (Some feeds) c.push.result (j.0, refl, j.3)
    c.push.ensures.writes))

pub returns-in_err-ending-clause-span : goal.returns-in_err-ending-clause-span
returns-in_err-ending-clause-span g c =
    let i = c.pieces.invariant in
    let j = i.joins in
    let w = c.in_err-ending.ensures.copies in
    let bytes = j.0 ++ w.0 in
    let begins = closed_begins bytes in (
      bytes,
      omega (arith, length-append j.0 w.0, j.4, w.3),
      writes_err _ _ _
          _ (Some (closed_text bytes)) _ c.from_residual.ensures.0
          (bytes ++ begins.0, begins.1, front_more _ (joins_front j.3 w.2)),
    )

pub returns-clause-span : goal.returns-clause-span
returns-clause-span g c =
    let i = c.pieces.invariant in
    let j = i.joins in
    let feeds : List ℕ = c.feeds.result.now in
    let none : c.pieces.part.left ≡ 0 = grind (arith, nat_tests) in
    let long : length j.0 ≡ (record_at c.args.index.now.messages c.args.n).length = omega (arith, j.4, none) in
    let same : feeds_of (ending_of_bytes j.0) ≡ feeds = ap feeds_of (sym j.2) ∙ sym c.feeds.ensures in
    let is : closed_text j.0 ≡ j.0 ++ feeds = closed_by_last j.0
    (omega (arith, long, message_some c.args.index.now c.args.n c.requires.table c.requires.below))
    ∙ ap (λ (l : List ℕ). j.0 ++ l) same in (
      j.0,
      long,
      writes_less (g.O.Out.taken c.args.out.now) (g.O.Out.taken c.push.new.out) c.args.sheet.now c.push.new.self
          (Some (closed_text j.0)) (j.0 ++ feeds) c.push.result is
          (writes_next (g.O.Out.taken c.args.out.now) (g.O.Out.taken c.pieces.out) (g.O.Out.taken c.push.new.out)
          c.args.sheet.now c.pieces.sheet c.push.new.self (Some j.0) (Some feeds) c.push.result (j.0, refl, j.3)
          c.push.ensures.writes),
    )

pub returns-clause-out : goal.returns-clause-out
returns-clause-out = grind (arith, unsent_before_writes)

pub returns-in_err-ending-clause-read : goal.returns-in_err-ending-clause-read
returns-in_err-ending-clause-read g c =
    let i = c.pieces.invariant in
    let some : 0 < c.pieces.part.left = grind (arith, nat_tests) in
    ends_read _ Mbox (record_at c.args.index.now.messages c.args.n) _ _
    _ _ _ _
    (grind (arith, err_from_is_err_and)) i.read some i.archive c.in_err-ending.ensures.stale
    c.in_err-ending.ensures.read

pub returns-clause-read : goal.returns-clause-read
returns-clause-read g c =
    let m = record_at c.args.index.now.messages c.args.n in
    let none : c.pieces.part.left ≡ 0 = grind (arith, nat_tests) in
    read_fresh _ Mbox m _ _ _ c.push.ensures.own.1
    (whole_read _ m _ _ _ c.pieces.invariant.read none)

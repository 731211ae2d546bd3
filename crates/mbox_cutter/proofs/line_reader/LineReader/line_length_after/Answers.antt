-- `LineReader::line_length_after` returns the length of the next line, because it reads on until nothing to come can
-- change it.
use Rattle.mbox_cutter.proofs.Words.{◌<◌, length, ap, ◌∙◌, subst, arith, IsAtEnd, take_all, BytesAhead, line_end_of}
use Rattle.mbox_cutter.proofs.FirstLines.{line_end-positive, line_end-within, line_end-open}
use Rattle.mbox_cutter.proofs.LinesAreCut.{line_end-IsLine, open_end-IsLine}
use Rattle.mbox_cutter.proofs.LineReaders.{at_some, at_end, ReadsOn-join}
use Rattle.mbox_cutter.proofs.line_reader.LineReader.line_length_after.Goals as goal

pub returns-in-Some-clause-length : goal.returns-in-Some-clause-length
returns-in-Some-clause-length g c = record {
  within = omega (arith, line_end-within c.unread_after-rest.result.now c.in-Some.n c.in-Some.ensures);
  line = λ some. rw c.unread_after-rest.ensures.rest at
      (line_end-IsLine c.unread_after-rest.result.now c.in-Some.n c.in-Some.ensures);
  first = at_some c.args.skip c.in-Some.n c.more.self.unread _ _ (omega arith)
      (c.in-Some.ensures ∙ ap line_end_of c.unread_after-rest.ensures.rest) c.more.invariant.bytes;
  end = grind (arith, line_end-positive);
}

pub returns-in-None-clause-length : goal.returns-in-None-clause-length
returns-in-None-clause-length g c =
    let over = subst (λ (w : BytesAhead _). IsAtEnd (g.S.Source.rest w.source.now)) c.self.view_is
    (c.self.invariant.end c.if-self.true) in
    record {
      within = omega arith;
      line = grind (arith, take_all, open_end-IsLine);
      first = rw c.unread_after-rest.ensures.rest
          (at_end c.args.skip c.more.self.unread _ _
          (c.in-None.ensures ∙ ap line_end_of c.unread_after-rest.ensures.rest) over c.more.invariant.bytes);
      end = λ none. over;
    }

pub fill-requires-clause-room : goal.fill-requires-clause-room
fill-requires-clause-room g c = omega (arith, line_end-open c.unread_after-rest.result.now c.in-None-2.ensures)

pub returns-in_err-fill-in-None-2-clause-reads : goal.returns-in_err-fill-in-None-2-clause-reads
returns-in_err-fill-in-None-2-clause-reads g c =
    grind (arith, ReadsOn-join)

pub more-preserved : goal.more-preserved
more-preserved g c = grind (arith, ReadsOn-join)

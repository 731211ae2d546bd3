-- `PartReader::end_header` gives the texts of a header and goes on to its body, by the results of its three calls.
use Rattle.mime_text.proofs.Words.{Comes}
use Rattle.mime_text.proofs.Handing.{fault-up}
use Rattle.mime_text.proofs.PassingLemmas.{header-passes, header-stopped, broke-memory_after}
use Rattle.mime_text.proofs.parts.part_reader.PartReader.end_header.Goals as goal

pub returns-in_err-give_header-clause-pairs : goal.returns-in_err-give_header-clause-pairs
returns-in_err-give_header-clause-pairs g c =
    rw (fault-up c.from_residual.result _ c.from_residual.ensures.1)
    (header-stopped g.S.TextSink.takes g.S.TextSink.refuses c.args.self.now c.args.counted c.args.default
    c.fields.result _ _ _ c.fields.ensures.fields c.in_err-give_header.ensures)

pub returns-in_err-note-clause-pairs : goal.returns-in_err-note-clause-pairs
returns-in_err-note-clause-pairs g c =
    rw (
      fault-up c.from_residual-in_err-note.result _ c.from_residual-in_err-note.ensures.1,
      c.in_err-note.ensures.fault,
    )
    (header-stopped g.S.TextSink.takes g.S.TextSink.refuses c.args.self.now c.args.counted c.args.default
    c.fields.result _ _ _ c.fields.ensures.fields
    (broke-memory_after g.S.TextSink.takes g.S.TextSink.refuses _ _ _ c.in_ok-give_header.ensures))

pub returns-clause-pairs : goal.returns-clause-pairs
returns-clause-pairs g c =
    rw c.or.ensures
    (header-passes g.S.TextSink.takes g.S.TextSink.refuses c.args.self.now c.args.counted c.args.default c.fields.result
    (Comes c.begin_body.new.self) c.begin_body.result _ _ c.fields.ensures.fields c.in_ok-give_header.ensures
    c.begin_body.ensures.comes)

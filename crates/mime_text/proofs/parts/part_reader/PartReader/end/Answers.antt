-- `PartReader::end` gives the texts that are left and returns the facts, by the results of its two calls.
use Rattle.std.proofs.Common.{arith}
use Rattle.mime_text.proofs.Handing.{fault-up}
use Rattle.mime_text.proofs.PassingLemmas.{end-passes, end-stopped, facts-whole}
use Rattle.mime_text.proofs.parts.part_reader.PartReader.end.Goals as goal

pub returns-in_err-end_entity-clause-pairs : goal.returns-in_err-end_entity-clause-pairs
returns-in_err-end_entity-clause-pairs g c =
    rw (fault-up c.from_residual.result _ c.from_residual.ensures.1)
    (end-stopped g.S.TextSink.takes g.S.TextSink.refuses c.args.self.now c.fields.result _ _ _ c.fields.ensures.fields
    c.in_err-end_entity.ensures)

pub returns-clause-pairs : goal.returns-clause-pairs
returns-clause-pairs g c =
    end-passes g.S.TextSink.takes g.S.TextSink.refuses c.args.self.now c.fields.result c.take.result _ _
    c.fields.ensures.fields c.in_ok-end_entity.ensures c.take.ensures.fault

pub returns-clause-facts : goal.returns-clause-facts
returns-clause-facts g c = grind (arith, facts-whole)

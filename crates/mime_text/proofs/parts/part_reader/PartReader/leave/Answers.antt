-- `PartReader::leave` gives the last texts of an entity, and then those at the new place come.
use Rattle.mime_text.proofs.PassingLemmas.{leave-passes}
use Rattle.mime_text.proofs.parts.part_reader.PartReader.leave.Goals as goal

pub returns-clause-pairs : goal.returns-clause-pairs
returns-clause-pairs g c =
    leave-passes g.S.TextSink.takes g.S.TextSink.refuses c.args.self.now c.follow.new.self c.args.lead c.fields.result
    c.end_entity-outcome.result _ _ c.fields.ensures.fields c.end_entity-outcome.ensures c.follow.ensures.comes

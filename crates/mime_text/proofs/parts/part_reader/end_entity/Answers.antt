-- `end_entity` gives what an entity has left at its end, by the state: the texts of a header, those of a leaf, or none.
use Rattle.mime_text.proofs.parts.part_reader.end_entity.Goals as goal

pub returns-in-InHeader : goal.returns-in-InHeader
returns-in-InHeader g c = rw c.in-InHeader.is c.give_header.ensures

pub returns-in-InLeaf : goal.returns-in-InLeaf
returns-in-InLeaf g c = rw c.in-InLeaf.is c.end.ensures

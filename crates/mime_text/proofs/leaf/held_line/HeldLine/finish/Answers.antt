-- `HeldLine::finish` gives the texts of what is held and still decoded, because the bytes held are those of its buffer.
use Rattle.mime_text.proofs.leaf.held_line.HeldLine.finish.Goals as goal

pub returns-clause-hands : goal.returns-clause-hands
returns-clause-hands g c = rw (← c.self.view_is) c.give_rest-result.ensures

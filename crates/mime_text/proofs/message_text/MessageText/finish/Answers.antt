-- `MessageText::finish` gives the texts that its reader has left, all of them if it succeeds and a front after a fault.
use Rattle.std.proofs.Common.{arith}
use Rattle.mime_text.proofs.FedLemmas.{finishes-at, finishes-part_at}
use Rattle.mime_text.proofs.message_text.MessageText.finish.Goals as goal

pub returns-clause-texts : goal.returns-clause-texts
returns-clause-texts g c = grind (arith, finishes-at)

pub returns-clause-stopped : goal.returns-clause-stopped
returns-clause-stopped g c = grind (arith, finishes-part_at)

-- A text without `<`, and with no tag open before it, stays as it is, because no tag begins in it.
use Rattle.mime_text.proofs.Words.{arith, Lacks-from}
use Rattle.mime_text.proofs.TagLemmas.{free-text, free-after}
use Rattle.mime_text.proofs.leaf.tags.is_free_of_tags.Goals as goal

pub returns-clause-text : goal.returns-clause-text
returns-clause-text c t = grind (arith, Lacks-from, free-text)

pub returns-clause-is_open : goal.returns-clause-is_open
returns-clause-is_open c t = grind (arith, Lacks-from, free-after)

-- `character_count` counts bytes in ASCII, where each is a character, and characters in any other text.
use Rattle.mime_text.proofs.Words.{chars-IsAscii, arith}
use Rattle.std.proofs.lemmas.Iterator.{YieldsList-from_chars}
use Rattle.std.proofs.lemmas.Iterator.Consumers.{count_from_yields_List}
use Rattle.mime_text.proofs.leaf.tags.character_count.Goals as goal

pub returns-then-is_ascii : goal.returns-then-is_ascii
returns-then-is_ascii c = grind (arith, chars-IsAscii)

pub returns-else-is_ascii : goal.returns-else-is_ascii
returns-else-is_ascii c = count_from_yields_List _ _ c.count.ensures.ran
    (YieldsList-from_chars c.args.text.now c.utf8.text cc)

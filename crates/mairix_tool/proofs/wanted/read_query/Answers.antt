-- `read_query` reads the text of the patterns as the definition joins them.
use Rattle.mairix_tool.proofs.Words.{string_bytes, arith}
use Rattle.mairix_tool.proofs.ArchiveLaws.AskedPaths.{joined-by-spaces}
use Rattle.mairix_tool.proofs.wanted.read_query.Goals as goal

pub returns-in_ok-text : goal.returns-in_ok-text
returns-in_ok-text c = grind (arith, joined-by-spaces, string_bytes)

-- `unescape_into` adds at most as many bytes as there are, because escapes only shorten. What a failed call added is
-- taken back.
use Rattle.header_text.proofs.Words.{arith, length-append}
use Rattle.header_text.proofs.WordLaws.EscapeLemmas.{length-unescaped}
use Rattle.header_text.proofs.TextFronts.{taken_back}
use Rattle.header_text.proofs.escape.unescape_into.Goals as goal

pub returns-else-is_err-clause-size : goal.returns-else-is_err-clause-size
returns-else-is_err-clause-size c = grind (arith, length-append, length-unescaped)

pub returns-then-is_err-clause-refused : goal.returns-then-is_err-clause-refused
returns-then-is_err-clause-refused c = grind (arith, taken_back)

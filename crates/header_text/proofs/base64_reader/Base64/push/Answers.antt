-- `Base64::push` decodes a piece up to its first `=`, because the text ends there. What a failed call added is taken
-- back.
use Rattle.header_text.proofs.Words.{arith}
use Rattle.header_text.proofs.WordLaws.ReaderLemmas.{read-ended, read-on, held-symbols}
use Rattle.header_text.proofs.TextFronts.{taken_back}
use Rattle.header_text.proofs.base64_reader.Base64.push.Goals as goal

pub returns-in-Ok-clause-bytes : goal.returns-in-Ok-clause-bytes
returns-in-Ok-clause-bytes c later = grind (arith, read-ended, read-on, held-symbols)

pub returns-in-Err-clause-refused : goal.returns-in-Err-clause-refused
returns-in-Err-clause-refused c = grind (arith, taken_back)

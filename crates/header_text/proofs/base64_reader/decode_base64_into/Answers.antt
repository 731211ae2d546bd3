-- `decode_base64_into` adds at most as many bytes as the text has, because four symbols give three bytes.
use Rattle.header_text.proofs.Words.{arith, length-append, append-nil}
use Rattle.header_text.proofs.WordLaws.ReaderLemmas.{length-base64_bytes}
use Rattle.header_text.proofs.base64_reader.decode_base64_into.Goals as goal

pub returns-clause-size : goal.returns-clause-size
returns-clause-size c = grind (arith, length-append, append-nil, length-base64_bytes)

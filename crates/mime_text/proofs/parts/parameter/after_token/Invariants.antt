-- The rest has the same bytes after its value as the whole. The loop ends because each turn takes one byte of it away.
use Rattle.mime_text.proofs.Words.{◌≡◌, length, split_while}
use Rattle.mime_text.specs.Parameters.{is_token_byte as is_token_byte_of}
use Rattle.mime_text.proofs.parts.parameter.after_token.Given as goal

-- the bytes after the value are the same for what is left
abbrev pub invariant-loop-first : goal.invariant-loop-first
invariant-loop-first l = (split_while is_token_byte_of l.rest).1 ≡ (split_while is_token_byte_of l.fn.bytes).1

abbrev pub decreases-loop-first : goal.decreases-loop-first
decreases-loop-first l = length l.rest

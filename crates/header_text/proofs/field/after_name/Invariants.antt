-- The rest has the same bytes after its name as the line. The loop ends because each turn takes one byte of the name
-- away.
use Rattle.header_text.proofs.Words.{◌≡◌, length, split_while}
use Rattle.header_text.specs.Headers.{is_field_name_byte as is_field_name_byte_of}
use Rattle.header_text.proofs.field.after_name.Given as goal

-- the rest has the same bytes after its name
abbrev pub invariant-loop-first : goal.invariant-loop-first
invariant-loop-first l = (split_while is_field_name_byte_of l.rest).1 ≡ (split_while is_field_name_byte_of l.fn.line).1

abbrev pub decreases-loop-first : goal.decreases-loop-first
decreases-loop-first l = length l.rest

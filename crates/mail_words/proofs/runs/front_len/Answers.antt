-- `front_len` counts bytes that are characters of the class by themselves; from a byte beyond ASCII on, it goes by
-- characters.
use Rattle.mail_words.proofs.Imports.{arith}
use Rattle.mail_words.proofs.ByteReads.{class_byte, other_byte, front_bytes-pass, front_bytes-stop, front_bytes-end, front_bytes-boundary, front_bytes-more, length-front}
use Rattle.mail_words.proofs.runs.front_len.Goals as goal

pub returns-then-is_ascii : goal.returns-then-is_ascii
returns-then-is_ascii g c = grind (arith, other_byte, front_bytes-stop)

pub split_at-requires : goal.split_at-requires
split_at-requires g c = front_bytes-boundary _ _ _ c.loop-len.invariant

pub overflow_add-result : goal.overflow_add-result
overflow_add-result g c = grind (arith, front_bytes-more, length-front)

pub loop-len-preserved : goal.loop-len-preserved
loop-len-preserved g c = grind (arith, class_byte, front_bytes-pass)

pub returns : goal.returns
returns g c = grind (arith, front_bytes-end)

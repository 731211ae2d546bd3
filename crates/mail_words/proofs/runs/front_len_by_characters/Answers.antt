-- `front_len_by_characters` passes characters of two bytes, and leaves the others to `front_len_of_any`.
use Rattle.mail_words.proofs.Imports.{◌∙◌, arith}
use Rattle.mail_words.proofs.ByteReads.{front_bytes-boundary, front_bytes-more, length-front}
use Rattle.mail_words.proofs.CharBytes.{pair_pass, pair_stop}
use Rattle.mail_words.proofs.runs.front_len_by_characters.Goals as goal

pub split_at-requires : goal.split_at-requires
split_at-requires g c = front_bytes-boundary _ _ _ c.loop-c.invariant

pub overflow_add-result : goal.overflow_add-result
overflow_add-result g c = grind (arith, front_bytes-more, length-front)

pub returns-then-not-has : goal.returns-then-not-has
returns-then-not-has g c =
    grind (arith, pair_stop)

pub loop-c-preserved : goal.loop-c-preserved
loop-c-preserved g c =
    grind (arith, pair_pass)

-- `plain_len` adds two counts, because the bytes that the lanes count are all word characters at the front.
use Rattle.mail_words.proofs.Imports.{arith, is_word_character}
use Rattle.mail_words.proofs.ByteReads.{front_bytes-passed, front_bytes-boundary, front_bytes-more, length-front}
use Rattle.mail_words.proofs.runs.plain_len.Goals as goal

pub split_at-requires : goal.split_at-requires
split_at-requires c =
    let told = c.len_by_lanes-len.ensures in
    front_bytes-boundary _ _ _ (front_bytes-passed is_word_character c.args.text.now _ _ c.utf8.text
    c.as_bytes.ensures.value told.within told.passed)

pub overflow_add-result : goal.overflow_add-result
overflow_add-result c = grind (arith, front_bytes-passed, front_bytes-more, length-front)

pub returns : goal.returns
returns c = grind (arith, front_bytes-passed, front_bytes-more)

-- `long_word` returns the plain word with what is joined to it, unless nothing is joined or the whole is too long.
use Rattle.mail_words.proofs.Imports.{◌∙◌, arith, is_word_character}
use Rattle.std.proofs.Common.{chars}
use Rattle.mail_words.proofs.Seams.{front_seam, seam_boundary, chars_back, nil_from_bytes}
use Rattle.mail_words.proofs.Kept.{joined_on-long, length-long_front, long_seam, joined_is, long_at-short}
use Rattle.mail_words.proofs.RunLemmas.{begins-after, joined_front-none}
use Rattle.mail_words.proofs.words.long_word.Goals as goal

pub split_at-requires : goal.split_at-requires
split_at-requires c = seam_boundary _ _ _ _ (front_seam is_word_character c.args.text.now c.utf8.text) c.requires

pub returns-then-not-begins_in_joiner : goal.returns-then-not-begins_in_joiner
returns-then-not-begins_in_joiner c = grind (arith, chars_back, front_seam, joined_front-none, begins-after)

pub returns-then-joined-eq0 : goal.returns-then-joined-eq0
returns-then-joined-eq0 c =
    let joined = joined_is _ _ _ _ c.utf8.text c.requires c.split_at.ensures.back c.joined_len-joined.ensures in
    grind (arith, nil_from_bytes)

pub overflow_add-len : goal.overflow_add-len
overflow_add-len c =
    let joined = joined_is _ _ _ _ c.utf8.text c.requires c.split_at.ensures.back c.joined_len-joined.ensures in
    let cut = long_seam c.args.text.now c.utf8.text in
    omega (arith, joined, c.requires, length-long_front (chars c.args.text.now), cut.1.lengths)

pub returns-then-len-gt-WORD_LIMIT : goal.returns-then-len-gt-WORD_LIMIT
returns-then-len-gt-WORD_LIMIT c = grind (arith, joined_is, joined_on-long, length-long_front)

pub split_at-requires-2 : goal.split_at-requires-2
split_at-requires-2 c =
    let joined = joined_is _ _ _ _ c.utf8.text c.requires c.split_at.ensures.back c.joined_len-joined.ensures in
    let cut = long_seam c.args.text.now c.utf8.text in
    grind (arith, length-long_front)

pub returns : goal.returns
returns c = grind (arith, joined_is, long_at-short, length-long_front)

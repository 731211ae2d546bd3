-- `gap_and_word` finds a gap and a word in one load, because each bit of its mask says whether a byte is no word
-- character.
use Rattle.mail_words.proofs.Imports.{arith, ◌∙◌}
use Rattle.mail_words.proofs.LaneGaps.{mask_bound, gap_bound, shown_clear}
use Rattle.mail_words.proofs.lanes.gap_and_word.Goals as goal

pub overflow_add-gap : goal.overflow_add-gap
overflow_add-gap c = let few = mask_bound c.args.bytes.now _ c.if-bytes-lt-LANES.false c.others_in-others.ensures
    in grind (arith, few)

pub overflow_shr-rest : goal.overflow_shr-rest
overflow_shr-rest c = grind (arith, gap_bound)

pub returns : goal.returns
returns c =
    grind (arith, shown_clear)

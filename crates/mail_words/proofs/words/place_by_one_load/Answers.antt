-- `place_by_one_load` finds the next place, because the load has its gap and its word, which is short enough.
use Rattle.mail_words.proofs.Imports.{◌∙◌, arith}
use Rattle.mail_words.proofs.Kept.{words_left-kept}
use Rattle.mail_words.proofs.ShownWords.{shown_gap, shown_word}
use Rattle.mail_words.proofs.words.place_by_one_load.Goals as goal

pub after_gap-goes_on-requires : goal.after_gap-goes_on-requires
after_gap-goes_on-requires c = grind (arith, shown_gap)

pub place_at-requires : goal.place_at-requires
place_at-requires c = grind (arith, shown_word)

pub returns : goal.returns
returns c =
    grind (arith, shown_word, words_left-kept)

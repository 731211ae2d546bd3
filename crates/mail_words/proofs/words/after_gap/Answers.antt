-- `after_gap` keeps the words that are left, because none begins in the gap. A gap of joiners alone doesn't end the
-- run.
use Rattle.mail_words.proofs.Imports.{arith, is_other}
use Rattle.mail_words.proofs.Reading.{words_left-gaps, begins-gaps}
use Rattle.mail_words.proofs.Seams.{front_seam, seam_boundary, seam_back, chars_front, chars_back, some_from_bytes}
use Rattle.mail_words.proofs.words.after_gap.Goals as goal
use Rattle.mail_words.proofs.words.after_gap.Goals.{then-in_run, else-in_run}

pub split_at-requires : goal.split_at-requires
split_at-requires c = seam_boundary _ _ _ _ (front_seam is_other c.args.text.now c.utf8.text) c.requires

pub returns-clause-left : goal.returns-clause-left
returns-clause-left c = grind (arith, front_seam, chars_front, chars_back, words_left-gaps, then-in_run, else-in_run)

pub returns-clause-begins : goal.returns-clause-begins
returns-clause-begins c = grind (arith, front_seam, chars_back, seam_back, begins-gaps, some_from_bytes)

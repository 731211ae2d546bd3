-- `place_at` cuts a text after its plain word, because the word characters at the front end between two characters.
use Rattle.mail_words.proofs.Imports.{is_word_character, arith}
use Rattle.mail_words.proofs.Seams.{front_seam, seam_boundary}
use Rattle.mail_words.proofs.words.place_at.Goals as goal

pub split_at-requires : goal.split_at-requires
split_at-requires c = seam_boundary _ _ _ _ (front_seam is_word_character c.args.text.now c.utf8.text) c.requires

pub returns-clause-plain : goal.returns-clause-plain
returns-clause-plain c = grind (arith, front_seam)

pub returns-clause-after : goal.returns-clause-after
returns-clause-after c = grind (arith, front_seam)

pub returns-clause-after_chars : goal.returns-clause-after_chars
returns-clause-after_chars c = grind (arith, front_seam)

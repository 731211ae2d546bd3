-- All characters are in the class exactly if those at the front that are have all bytes of the text.
use Rattle.mail_words.proofs.Imports.{◌∙◌, is_piece}
use Rattle.std.specs.Prelude.{◌==◌}
use Rattle.mail_words.proofs.OneWord.{whole-front}
use Rattle.mail_words.proofs.runs.has_word_pieces_alone.Goals as goal

pub returns : goal.returns
returns c = cc (c.front_len.ensures, whole-front is_piece c.args.text.now c.utf8.text)

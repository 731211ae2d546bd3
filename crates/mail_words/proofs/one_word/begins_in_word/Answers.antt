-- A text begins in a word exactly if the word characters at its front have some bytes, because each has at least one.
use Rattle.mail_words.proofs.Imports.{◌∙◌, is_word_character}
use Rattle.std.proofs.Common.{chars}
use Rattle.mail_words.proofs.OneWord.{some-front}
use Rattle.mail_words.proofs.one_word.begins_in_word.Goals as goal

pub returns : goal.returns
returns c = cc (c.plain_len.ensures, some-front is_word_character (chars c.args.text.now))

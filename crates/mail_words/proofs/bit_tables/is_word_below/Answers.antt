-- As WordBits says of each character.
use Rattle.mail_words.proofs.WordBits.{word_bits_agree}
use Rattle.mail_words.proofs.bit_tables.is_word_below.Goals as goal

pub returns : goal.returns
returns c = word_bits_agree c.args.c c.requires

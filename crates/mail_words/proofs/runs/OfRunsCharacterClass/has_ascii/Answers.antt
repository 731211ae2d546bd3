-- A byte that isn't a word character of ASCII is in the class exactly if it is a joiner, because joiners are ASCII.
use Rattle.mail_words.proofs.Imports.{arith}
use Rattle.mail_words.proofs.Characters.{piece_byte}
use Rattle.mail_words.proofs.runs.OfRunsCharacterClass.has_ascii.Goals as goal

pub returns-else-is_ascii_word_character : goal.returns-else-is_ascii_word_character
returns-else-is_ascii_word_character c = grind (arith, piece_byte)

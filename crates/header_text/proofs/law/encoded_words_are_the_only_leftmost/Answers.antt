-- No other words are the leftmost ones: `only_leftmost`, by induction over the words.
use Rattle.header_text.proofs.WordLaws.PieceLaws.{only_leftmost}
use Rattle.header_text.proofs.law.encoded_words_are_the_only_leftmost.Goals as goal

pub returns : goal.returns
returns c = only_leftmost

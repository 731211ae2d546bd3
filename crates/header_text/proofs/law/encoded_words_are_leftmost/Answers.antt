-- The words that are found are the leftmost ones: `are_leftmost`, by induction over the length of the value.
use Rattle.header_text.proofs.WordLaws.PieceLaws.{are_leftmost}
use Rattle.header_text.proofs.law.encoded_words_are_leftmost.Goals as goal

pub returns : goal.returns
returns c = are_leftmost

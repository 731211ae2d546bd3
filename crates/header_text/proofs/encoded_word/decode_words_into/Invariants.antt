-- What was added, with what the rest still gives, is the whole. The loop ends because each word makes the rest shorter.
use Rattle.header_text.proofs.Words.{◌≡◌, ◌≤◌, ◌+◌, ◌*◌, ◌++◌, length, string_bytes, Extends, value_pieces, plain_text, decoded_value}
use Rattle.header_text.proofs.WordLaws.DecodedLemmas.{words_after}
use Rattle.header_text.proofs.encoded_word.decode_words_into.Given as goal

-- what was written, and what the rest still gives
abbrev pub invariant-loop-found : goal.invariant-loop-found
invariant-loop-found l = record {
  sofar : string_bytes l.into ++ (words_after l.follows_word (value_pieces l.rest).words ++ plain_text
      (value_pieces l.rest).rest)
      ≡ string_bytes l.fn.into ++ decoded_value l.fn.unfolded;
  size : length (string_bytes l.into) + 3 * length l.rest ≤ length (string_bytes l.fn.into) + 3 * length l.fn.unfolded;
  kept : Extends (string_bytes l.fn.into) (string_bytes l.into);
}

abbrev pub decreases-loop-found : goal.decreases-loop-found
decreases-loop-found l = length l.rest

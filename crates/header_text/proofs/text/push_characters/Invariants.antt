-- What was added, with the characters of the rest, is the whole. The loop ends because each turn makes the rest
-- shorter.
use Rattle.header_text.proofs.Words.{◌≡◌, ◌≤◌, ◌+◌, ◌*◌, ◌++◌, map, length, encode_utf8_all, string_bytes, Extends, character}
use Rattle.header_text.proofs.text.push_characters.Given as goal

-- what was written, and what the rest still gives
abbrev pub invariant-loop-at : goal.invariant-loop-at
invariant-loop-at l = record {
  sofar : string_bytes l.into ++ encode_utf8_all (map (character l.fn.charset) l.rest)
      ≡ string_bytes l.fn.into ++ encode_utf8_all (map (character l.fn.charset) l.fn.bytes);
  size : length (string_bytes l.into) + 3 * length l.rest ≤ length (string_bytes l.fn.into) + 3 * length l.fn.bytes;
  kept : Extends (string_bytes l.fn.into) (string_bytes l.into);
}

abbrev pub decreases-loop-at : goal.decreases-loop-at
decreases-loop-at l = length l.rest

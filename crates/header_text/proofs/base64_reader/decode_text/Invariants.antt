-- What was added, with what the held symbols and the rest still give, is the whole. The loop ends because the rest gets
-- shorter.
use Rattle.header_text.proofs.Words.{◌≡◌, ◌++◌, ℕ, List, length, Extends, bytes_of_symbols, symbols_of}
use Rattle.header_text.proofs.base64_reader.decode_text.Given as goal

-- what was written, and what the held symbols and the rest still give, whatever follows
abbrev pub invariant-loop-first : goal.invariant-loop-first
invariant-loop-first l = record {
  sofar : (later : List ℕ) → l.into.items ++ bytes_of_symbols (symbols_of l.held ++ (l.rest ++ later))
      ≡ l.fn.into.items ++ bytes_of_symbols (symbols_of l.fn.held ++ (l.fn.text ++ later));
  kept : Extends l.fn.into.items l.into.items;
}

abbrev pub decreases-loop-first : goal.decreases-loop-first
decreases-loop-first l = length l.rest

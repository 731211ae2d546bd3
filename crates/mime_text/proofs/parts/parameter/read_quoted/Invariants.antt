-- What was added, with what the rest still gives, is the whole. The loop ends because each turn makes the rest shorter.
use Rattle.mime_text.proofs.Words.{◌≡◌, ◌++◌, length, quoted_and_rest}
use Rattle.mime_text.proofs.parts.parameter.read_quoted.Given as goal

-- what was written, and what the rest gives
abbrev pub invariant-loop-first : goal.invariant-loop-first
invariant-loop-first l = record {
  value : l.into.items ++ (quoted_and_rest l.rest).0 ≡ l.fn.into.items ++ (quoted_and_rest l.fn.text).0;
  rest : (quoted_and_rest l.rest).1 ≡ (quoted_and_rest l.fn.text).1;
}

abbrev pub decreases-loop-first : goal.decreases-loop-first
decreases-loop-first l = length l.rest

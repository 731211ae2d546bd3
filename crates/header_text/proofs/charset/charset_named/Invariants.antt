-- No label so far fits, so those that are left decide.
use Rattle.header_text.proofs.Words.{◌≡◌, drop, charset_named}
use Rattle.header_text.proofs.WordLaws.CharsetLemmas.{labelled}
use Rattle.header_text.proofs.charset.charset_named.Given as goal

-- no label so far fits, so the result depends on those that are left
abbrev pub invariant-loop-label : goal.invariant-loop-label
invariant-loop-label l = charset_named l.fn.name ≡ labelled (drop l.label-index l.label-items) l.name

-- Each turn adds the kinds of one letter. With the letters that are left, they will be those of all letters.
use Rattle.mail_query.proofs.Words.{◌≡◌, drop, no_kinds, kinds_with}
use Rattle.mail_query.proofs.mairix.kinds_of.Given as goal

abbrev pub invariant-loop-letter : goal.invariant-loop-letter
invariant-loop-letter l = kinds_with l.kinds (drop l.letter-index l.letters) ≡ kinds_with no_kinds l.letters

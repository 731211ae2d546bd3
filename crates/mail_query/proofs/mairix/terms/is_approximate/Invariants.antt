-- Two flags note whether an `=` came with only digits after it, and with at least one. They and the bytes left decide.
use Rattle.mail_query.proofs.Words.{◌≡◌, true, drop, is_approximate}
use Rattle.mail_query.proofs.MairixLaws.ApproximateLemmas.{approximate_after}
use Rattle.mail_query.proofs.mairix.terms.is_approximate.Given as goal

abbrev pub invariant-loop-b : goal.invariant-loop-b
invariant-loop-b l = record {
  rest : approximate_after l.marked l.counted (drop l.b-index l.text) ≡ is_approximate l.text;
  marked : l.counted ≡ true → l.marked ≡ true;
}

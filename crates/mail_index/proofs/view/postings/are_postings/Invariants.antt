-- All bytes are postings exactly if the rest is, from the number that was reached on.
use Rattle.mail_index.proofs.Words.{◌≤◌, length, ArePosted}
use Rattle.mail_index.proofs.view.postings.are_postings.Given as goal

abbrev pub invariant-loop-rest : goal.invariant-loop-rest
invariant-loop-rest l = record {
  forward : ArePosted l.count 0 l.bytes → ArePosted l.count l.low l.rest;
  back : ArePosted l.count l.low l.rest → ArePosted l.count 0 l.bytes;
  within : l.low ≤ l.count;
}

abbrev pub decreases-loop-rest : goal.decreases-loop-rest
decreases-loop-rest l = length l.rest

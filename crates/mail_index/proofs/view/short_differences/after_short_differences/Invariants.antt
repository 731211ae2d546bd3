-- All bytes are postings exactly if the rest is, from the sum of the differences that were passed on.
use Rattle.mail_index.proofs.Words.{◌↔◌, ◌≤◌, length, ArePosted}
use Rattle.mail_index.proofs.view.short_differences.after_short_differences.Given as goal

abbrev pub invariant-loop-after : goal.invariant-loop-after
invariant-loop-after l = record {
  within : l.low ≤ l.count;
  same : ArePosted l.count 0 l.bytes ↔ ArePosted l.count l.low l.rest;
}

abbrev pub decreases-loop-after : goal.decreases-loop-after
decreases-loop-after l = length l.rest

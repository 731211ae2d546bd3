-- The lists of the directory are valid exactly if those of the rest are.
use Rattle.mail_index.proofs.Words.{◌≡◌, ◌↔◌, ◌-◌, ◌*◌, length, AreLists}
use Rattle.mail_index.proofs.view.posting_walk.are_lists.Given as goal

abbrev pub invariant-loop-number : goal.invariant-loop-number
invariant-loop-number l = record {
  left : length l.rest ≡ 24 * (l.fn.count - l.number);
  same : AreLists l.fn.messages l.fn.postings l.fn.count l.fn.directory ↔ AreLists l.fn.messages l.fn.postings
      (l.fn.count - l.number) l.rest;
}

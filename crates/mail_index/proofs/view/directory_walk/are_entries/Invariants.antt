-- The directory is valid exactly if the rest is, from the place that was reached.
use Rattle.mail_index.proofs.Words.{◌≡◌, ◌↔◌, ◌-◌, ◌*◌, ◌≤◌, [], length, version_number, AreEntries}
use Rattle.mail_index.proofs.view.directory_walk.are_entries.Given as goal

abbrev pub invariant-loop-number : goal.invariant-loop-number
invariant-loop-number l = record {
  left : length l.rest ≡ 24 * (l.fn.count - l.number);
  bound : l.place.text_place ≤ length l.fn.texts;
  same : AreEntries (version_number l.fn.version) l.fn.texts l.fn.total 0 0 0 [] l.fn.count l.fn.directory ↔ AreEntries
      (version_number l.fn.version) l.fn.texts l.fn.total l.place.text_place l.place.place l.place.number
      l.place.text.now (l.fn.count - l.number) l.rest;
}

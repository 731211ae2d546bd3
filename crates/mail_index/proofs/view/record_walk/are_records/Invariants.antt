-- The records are valid exactly if the rest is, from the place that was reached.
use Rattle.mail_index.proofs.Words.{◌≡◌, ◌↔◌, ◌-◌, ◌*◌, ◌≤◌, length, version_number, SpellsArchives, AreRecords}
use Rattle.mail_index.proofs.view.record_walk.are_records.Given as goal

abbrev pub invariant-loop-number : goal.invariant-loop-number
invariant-loop-number l = record {
  left : length l.rest ≡ 40 * (l.fn.messages - l.number);
  bound : l.place.archive ≤ l.fn.count;
  spelled : SpellsArchives (version_number l.fn.version) (l.fn.count - l.place.archive) l.place.archives.now;
  same : AreRecords (version_number l.fn.version) l.fn.count 0 0 l.fn.archives l.fn.messages l.fn.section ↔ AreRecords
      (version_number l.fn.version) l.fn.count l.place.archive l.place.offset l.place.archives.now
      (l.fn.messages - l.number) l.rest;
}

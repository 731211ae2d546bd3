-- The rest is the bytes after the archives that were passed.
use Rattle.mail_index.proofs.Words.{◌≡◌, ◌-◌, version_number, SpellsArchives, after_archives}
use Rattle.mail_index.proofs.view.archive.after_archives.Given as goal

abbrev pub invariant-loop-number : goal.invariant-loop-number
invariant-loop-number l = record {
  spelled : SpellsArchives (version_number l.fn.version) (l.fn.count - l.number) l.rest;
  same : after_archives (version_number l.fn.version) (l.fn.n - l.number) l.rest
      ≡ after_archives (version_number l.fn.version) l.fn.n l.fn.section;
}

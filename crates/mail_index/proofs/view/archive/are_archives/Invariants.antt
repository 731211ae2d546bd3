-- The section is the right number of archives exactly if the rest is the number that is left.
use Rattle.mail_index.proofs.Words.{◌↔◌, ◌-◌, version_number, SpellsArchives}
use Rattle.mail_index.proofs.view.archive.are_archives.Given as goal

abbrev pub invariant-loop-number : goal.invariant-loop-number
invariant-loop-number l = SpellsArchives (version_number l.fn.version) l.fn.count l.fn.section ↔ SpellsArchives
    (version_number l.fn.version) (l.fn.count - l.number) l.rest

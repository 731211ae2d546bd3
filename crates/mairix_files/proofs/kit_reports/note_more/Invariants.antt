-- The next reports agree if both do, and have the states of both.
use Rattle.std.specs.Prelude.{◌&&◌, ◌++◌}
use Rattle.mairix_files.proofs.kit_reports.note_more.Given as goal

-- whether all of them agree, and all states
abbrev pub ghost-next : goal.ghost-next
ghost-next a = (a.self.now.agree && a._noted.now.agree, a._noted.now.found ++ a.self.now.found)

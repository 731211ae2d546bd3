-- The next reports agree if those before and the new one do, and have the same states.
use Rattle.std.specs.Prelude.{◌&&◌}
use Rattle.mairix_files.proofs.kit_reports.KitReports.note.Given as goal

-- whether all of them agree, and the states
abbrev pub ghost-next : goal.ghost-next
ghost-next g a = (a.self.now.agree && g.agrees, a.self.now.found)

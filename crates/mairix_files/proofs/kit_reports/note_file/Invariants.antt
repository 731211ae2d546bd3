-- The next reports agree if those before and the new one do, and have the state of one more file.
use Rattle.std.specs.Prelude.{◌&&◌, ◌∷◌}
use Rattle.mairix_files.proofs.kit_reports.note_file.Given as goal

-- whether all of them agree, and the states with the new one
abbrev pub ghost-next : goal.ghost-next
ghost-next g a = (a.self.now.agree && g.agrees, a._noted.now ∷ a.self.now.found)

-- As long as nothing is reported, all agrees, and no file was given back.
use Rattle.std.specs.Prelude.{true, []}
use Rattle.mairix_files.proofs.kit_reports.KitReports.new.Given as goal

-- all agrees, and there are no states
abbrev pub ghost-of : goal.ghost-of
ghost-of a = (true, [])

-- What calls add to the reports.
use Rattle.std.specs.Prelude.{◌≡◌, true, List, Option}
use Rattle.named_files.specs.FoundStates.{AddsFiles}
use Rattle.named_files.specs.declared.folder.Folder.{Ghosts}

-- Reports are added. All agree only if those before do, and as they do if all reports are right.
pub record AddsReports {D F N L R M A S : Type 0} (f : Ghosts D F N L R M A S) (before after : R) : Type 0 where
  pub earlier : f.agree after ≡ true → f.agree before ≡ true
  pub right : f.reports_are_right → f.agree after ≡ f.agree before
  -- what was noted of files that were given back stays, at any moment
  pub found : (first : List (Option S)) → AddsFiles first (f.found before) → AddsFiles first (f.found after)

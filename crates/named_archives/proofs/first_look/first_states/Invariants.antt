-- There is a state for each name so far, and what is reported is of their files.
use Rattle.std.proofs.Common.{◌≡◌, ◌&&◌, ◌++◌, List, Option, is_some, take, vec_len}
use Rattle.std.specs.List.{list_all}
use Rattle.named_archives.specs.Names.{files_of}
use Rattle.named_archives.specs.States.{AreStatesOf, noted_states}
use Rattle.named_files.specs.FoundStates.{AddsFiles}
use Rattle.named_archives.proofs.first_look.first_states.Given as goal

abbrev pub invariant-loop-number : goal.invariant-loop-number
invariant-loop-number g l = record {
  count : vec_len l.states ≡ l.number;
  states : AreStatesOf g.F.File.KeptFile.state_found g.F.File.Source.rest
      (files_of g.F.Name.FileName.text (g.F.Folder.holds l.folder) (take l.number l.names)) l.states.items;
  noted : g.F.Folder.agree l.reports ≡ (g.F.Folder.agree l.fn.reports
      && list_all (λ file. is_some file) (files_of g.F.Name.FileName.text (g.F.Folder.holds l.folder)
      (take l.number l.names)));
  right : g.F.Folder.reports_are_right → g.F.Folder.agree l.reports ≡ g.F.Folder.agree l.fn.reports;
  found : g.F.Folder.found l.reports ≡ noted_states l.states.items ++ g.F.Folder.found l.fn.reports;
  stays : (first : List (Option g.row.F-File-State.Denot)) → AddsFiles first (g.F.Folder.found l.fn.reports)
      → AddsFiles first (g.F.Folder.found l.reports);
}

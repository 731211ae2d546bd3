-- What was reported so far agrees exactly if each source so far has agreed.
use Rattle.std.proofs.Common.{◌≡◌, ◌&&◌, ◌++◌, true, List, All, Option, IsSome, map}
use Rattle.std.specs.List.{list_all}
use Rattle.named_files.specs.Entries.{bytes_of}
use Rattle.named_archives.specs.Progress.{has_agreed, bytes_left_in}
use Rattle.named_archives.specs.States.{noted_files}
use Rattle.named_files.specs.FoundStates.{AddsFiles}
use Rattle.named_archives.proofs.named_source.report_all.Given as goal

abbrev pub invariant-loop-source : goal.invariant-loop-source
invariant-loop-source g l = record {
  noted : g.F.Folder.agree l.reports ≡ (g.F.Folder.agree l.fn.reports && list_all
      (λ s. has_agreed g.F.File.Source.rest g.F.File.KeptFile.bytes s.file) l.yielded);
  right : g.F.Folder.reports_are_right → g.F.Folder.agree l.reports ≡ g.F.Folder.agree l.fn.reports;
  known : g.F.Folder.agree l.reports ≡ true → All (λ s. s.failures ≡ 0 → IsSome s.file
      → IsSome (bytes_left_in g.F.File.Source.rest
      (bytes_of (g.F.Folder.holds s.folder.now (g.F.Name.FileName.text s.name.now))) s.file
      s.progress))
      l.yielded;
  found : g.F.Folder.found l.reports ≡ noted_files g.F.File.KeptFile.state_found (map (λ s. s.file) l.yielded)
      ++ g.F.Folder.found l.fn.reports;
  stays : (first : List (Option g.row.F-File-State.Denot)) → AddsFiles first (g.F.Folder.found l.fn.reports)
      → AddsFiles first (g.F.Folder.found l.reports);
}

-- There is a source for each name so far, in order; none has been opened.
use Rattle.std.proofs.Common.{◌≡◌, None, All, map, take, slice_get}
use Rattle.std.specs.List.{range_with_len}
use Rattle.named_files.specs.Entries.{bytes_of}
use Rattle.named_archives.specs.Progress.{bytes_left_in}
use Rattle.named_archives.proofs.named_source.sources_of.Given as goal

abbrev pub invariant-loop-number : goal.invariant-loop-number
invariant-loop-number g l = record {
  rest : map (λ s. bytes_left_in g.F.File.Source.rest
      (bytes_of (g.F.Folder.holds s.folder.now (g.F.Name.FileName.text s.name.now))) s.file
      s.progress)
      l.sources.items ≡ map (λ name. bytes_of (g.F.Folder.holds l.folder (g.F.Name.FileName.text name)))
      (take l.number l.names);
  names : map (λ s. g.F.Name.FileName.text s.name.now) l.sources.items
      ≡ map g.F.Name.FileName.text (take l.number l.names);
  states : map (λ s. s.state) l.sources.items ≡ map (slice_get l.states) (range_with_len 0 l.number);
  fresh : All (λ s. (s.failures ≡ 0) × (s.file ≡ None)) l.sources.items;
}

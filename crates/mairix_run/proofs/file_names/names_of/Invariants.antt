-- There is a name for each text so far, in order.
use Rattle.std.proofs.Common.{◌≡◌, map, string_bytes, take}
use Rattle.mairix_run.specs.AskedNames.{AsksFor}
use Rattle.mairix_run.proofs.file_names.names_of.Given as goal

abbrev pub invariant-loop-text : goal.invariant-loop-text
invariant-loop-text g l = record {
  text : map g.F.Name.FileName.text l.made.items ≡ map string_bytes (take l.text-index l.texts);
  asked : AsksFor (map string_bytes l.texts) (g.F.Folder.agree l.files.reports) (g.F.Folder.made l.fn.names)
      (g.F.Folder.made l.names);
}

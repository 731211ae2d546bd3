-- There are as many archives as names.
use Rattle.std.proofs.Common.{◌&&◌, length, refl}
use Rattle.std.proofs.lemmas.List.{length-map}
use Rattle.named_archives.specs.Names.{files_of}
use Rattle.named_archives.specs.Progress.{has_agreed}
use Rattle.named_archives.specs.declared.read_ahead.ReadAhead.{ReadAhead}
use Rattle.named_archives.proofs.Held.{held-length}
use Rattle.named_archives.proofs.named_archives.NamedArchivesArchives.count.Goals as goal

pub returns : goal.returns
returns g c =
    let a = c.args.self.now in (
      refl,
      held-length (g.F.Folder.agree a.closed && has_agreed {F = ReadAhead g.row.F-File.Denot g.row.F-File-State.Denot
          g.F.File.KeptFile g.F.File.Source} (λ x. g.F.File.Source.rest x.file) (λ x. g.F.File.KeptFile.bytes x.file)
          a.current) (files_of g.F.Name.FileName.text (g.F.Folder.holds a.folder.now) a.names.now) (length a.names.now)
          (length-map a.names.now _),
    )

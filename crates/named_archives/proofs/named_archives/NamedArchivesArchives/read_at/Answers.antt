-- The bytes are those of the archive with this number, since its file is open.
use Rattle.std.proofs.Common.{◌≡◌, ◌∙◌, ◌&&◌, ℕ, IfOk, take, subst}
use Rattle.contract_words.specs.Archives.{IsReadFromArchive}
use Rattle.named_archives.specs.Names.{files_of, held_while}
use Rattle.named_archives.specs.Progress.{has_agreed}
use Rattle.named_archives.specs.declared.read_ahead.ReadAhead.{ReadAhead}
use Rattle.named_archives.proofs.Held.{at-number, read-is}
use Rattle.named_archives.proofs.named_archives.NamedArchivesArchives.read_at.Goals as goal

pub returns-then-is_open-clause-bytes : goal.returns-then-is_open-clause-bytes
returns-then-is_open-clause-bytes g c =
    let new = c.read_here.new.self in
    let files = files_of g.F.Name.FileName.text (g.F.Folder.holds new.folder.now) new.names.now in
    let at : new.number ≡ c.args.n = c.read_here.ensures.same.4 ∙ (c.is_open.ensures c.if-is_open.true).0 in
    subst (λ (k : ℕ). IfOk c.read_here.result
    (λ bytes. IsReadFromArchive k c.args.offset (take bytes c.read_here.new.into)
    (held_while (g.F.Folder.agree new.closed && has_agreed {F = ReadAhead g.row.F-File.Denot g.row.F-File-State.Denot
    g.F.File.KeptFile g.F.File.Source} (λ x. g.F.File.Source.rest x.file) (λ x. g.F.File.KeptFile.bytes x.file)
    new.current) files))) at
    (read-is {A = ReadAhead g.row.F-File.Denot g.row.F-File-State.Denot g.F.File.KeptFile g.F.File.Source}
    (g.F.Folder.agree new.closed) (λ x. g.F.File.Source.rest x.file) (λ x. g.F.File.KeptFile.bytes x.file)
    (λ x. g.F.File.KeptFile.state_found x.file) (λ x. x.state) files new.states.now new.number c.read_here.result
    c.args.offset c.read_here.new.into
    new.current new.opened c.read_here.ensures.in_state c.read_here.ensures.bytes)

pub returns-clause-bytes : goal.returns-clause-bytes
returns-clause-bytes g c =
    let new = c.read_first.new.self in
    let files = files_of g.F.Name.FileName.text (g.F.Folder.holds new.folder.now) new.names.now in
    at-number c.read_first.result new.number c.args.n
    (λ k. λ bytes. IsReadFromArchive k c.args.offset (take bytes c.read_first.new.into)
    (held_while (g.F.Folder.agree new.closed && has_agreed {F = ReadAhead g.row.F-File.Denot g.row.F-File-State.Denot
    g.F.File.KeptFile g.F.File.Source} (λ x. g.F.File.Source.rest x.file) (λ x. g.F.File.KeptFile.bytes x.file)
    new.current) files)) c.read_first.ensures.number
    (read-is {A = ReadAhead g.row.F-File.Denot g.row.F-File-State.Denot g.F.File.KeptFile g.F.File.Source}
    (g.F.Folder.agree new.closed) (λ x. g.F.File.Source.rest x.file) (λ x. g.F.File.KeptFile.bytes x.file)
    (λ x. g.F.File.KeptFile.state_found x.file) (λ x. x.state) files new.states.now new.number c.read_first.result
    c.args.offset c.read_first.new.into
    new.current new.opened c.read_first.ensures.in_state c.read_first.ensures.bytes)

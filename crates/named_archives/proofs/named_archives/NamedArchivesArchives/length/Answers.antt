-- The length is that of the archive with this number, since its file is open.
use Rattle.std.proofs.Common.{◌≡◌, ◌∙◌, ◌&&◌, ℕ, IfOk, subst}
use Rattle.contract_words.specs.Archives.{IsLength}
use Rattle.named_archives.specs.Names.{files_of, held_while}
use Rattle.named_archives.specs.Progress.{has_agreed}
use Rattle.named_archives.specs.declared.read_ahead.ReadAhead.{ReadAhead}
use Rattle.named_archives.proofs.Held.{at-number, length-is}
use Rattle.named_archives.proofs.named_archives.NamedArchivesArchives.length.Goals as goal

pub returns-then-is_open-clause-bytes : goal.returns-then-is_open-clause-bytes
returns-then-is_open-clause-bytes g c =
    let new = c.length_here.new.self in
    let files = files_of g.F.Name.FileName.text (g.F.Folder.holds new.folder.now) new.names.now in
    let at : new.number ≡ c.args.n = c.length_here.ensures.same.4 ∙ (c.is_open.ensures c.if-is_open.true).0 in
    subst (λ (k : ℕ). IfOk c.length_here.result (λ bytes. IsLength k bytes
    (held_while (g.F.Folder.agree new.closed && has_agreed {F = ReadAhead g.row.F-File.Denot g.row.F-File-State.Denot
    g.F.File.KeptFile g.F.File.Source} (λ x. g.F.File.Source.rest x.file) (λ x. g.F.File.KeptFile.bytes x.file)
    new.current) files))) at
    (length-is {A = ReadAhead g.row.F-File.Denot g.row.F-File-State.Denot g.F.File.KeptFile g.F.File.Source}
    (g.F.Folder.agree new.closed) (λ x. g.F.File.Source.rest x.file) (λ x. g.F.File.KeptFile.bytes x.file)
    (λ x. g.F.File.KeptFile.state_found x.file) (λ x. x.state) files new.states.now new.number c.length_here.result
    new.current new.opened c.length_here.ensures.in_state c.length_here.ensures.bytes)

pub returns-clause-bytes : goal.returns-clause-bytes
returns-clause-bytes g c =
    let new = c.length_first.new.self in
    let files = files_of g.F.Name.FileName.text (g.F.Folder.holds new.folder.now) new.names.now in
    at-number c.length_first.result new.number c.args.n (λ k. λ bytes. IsLength k bytes
    (held_while (g.F.Folder.agree new.closed && has_agreed {F = ReadAhead g.row.F-File.Denot g.row.F-File-State.Denot
    g.F.File.KeptFile g.F.File.Source} (λ x. g.F.File.Source.rest x.file) (λ x. g.F.File.KeptFile.bytes x.file)
    new.current) files)) c.length_first.ensures.number
    (length-is {A = ReadAhead g.row.F-File.Denot g.row.F-File-State.Denot g.F.File.KeptFile g.F.File.Source}
    (g.F.Folder.agree new.closed) (λ x. g.F.File.Source.rest x.file) (λ x. g.F.File.KeptFile.bytes x.file)
    (λ x. g.F.File.KeptFile.state_found x.file) (λ x. x.state) files new.states.now new.number c.length_first.result
    new.current new.opened c.length_first.ensures.in_state c.length_first.ensures.bytes)

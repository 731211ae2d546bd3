-- If an archive that is there can't be opened, the system refuses that, or memory ran out.
use Rattle.std.proofs.Common.{◌≡◌, ◌⊎◌, None, arith, sym, subst}
use Rattle.named_files.specs.Entries.{bytes_of}
use Rattle.named_files.specs.Refusals.{HasCause}
use Rattle.named_archives.proofs.Failures.{cannot-open}
use Rattle.named_archives.proofs.named_archives.NamedArchives.open_file.Goals as goal

pub invariant_of-self-clause-failed : goal.invariant_of-self-clause-failed
invariant_of-self-clause-failed g c = λ some not there.
    let F = g.F.Folder in
    let text = g.F.Name.FileName.text in
    let archives = c.args.self.now in
    let holds = F.holds archives.folder.now in
    cannot-open text F.can_refuse F.reads_can_fail holds archives.names.now _ c.index-self-n.result
    (omega (arith, c.requires.below)) c.index-self-n.is there c.in-Err.why not
    (subst (λ k. HasCause c.in-Err.why ((bytes_of (holds (text k)) ≡ None) ⊎ F.can_refuse))
    (sym c.index-self-n.is) c.in-Err.ensures.refused)

-- The first bytes of the file show whether it may be replaced.
use Rattle.std.proofs.Common.{◌≡◌, ◌∙◌, ◌⊎◌, inl, ap, not, sym, subst, take, true, IfOk}
use Rattle.named_files.specs.Entries.{IsFileOf}
use Rattle.mairix_run.proofs.MadeFiles.{foreign_front, stopped_at}
use Rattle.mairix_run.proofs.RunStages.{given-ok}
use Rattle.mairix_run.specs.Stops.{IsStoppedAt}
use Rattle.mairix_run.specs.OldIndexes.{is_foreign, is_replaceable}
use Rattle.mairix_run.proofs.old_index.check_old_index.Goals as goal

pub returns-then-is_replaceable-clause-replaceable : goal.returns-then-is_replaceable-clause-replaceable
returns-then-is_replaceable-clause-replaceable g c = λ agree.
    let F = g.F.Folder in
    let name = g.F.Name.FileName.text c.args.name.now in
    let entry = F.holds c.args.folder.now name in
    let read = subst (λ r. IfOk r (λ b. F.agree c.read_named-front.new.reports ≡ true
    → IsFileOf (λ all. b.items ≡ take 8 all) entry))
    (given-ok c.as_str-path.result.now c.read_named-front.result c.in-Ok-or_stopped.front
    c.in-Ok-or_stopped.ensures.given)
    c.read_named-front.ensures.bytes agree in
    foreign_front entry c.in-Ok-or_stopped.front.items read
    ∙ ap not (ap is_replaceable (sym c.as_slice.ensures.value) ∙ sym c.is_replaceable.ensures
    ∙ c.if-is_replaceable.true)

pub returns-clause-stopped : goal.returns-clause-stopped
returns-clause-stopped g c = λ agree.
    let F = g.F.Folder in
    let name = g.F.Name.FileName.text c.args.name.now in
    let entry = F.holds c.args.folder.now name in
    let read = subst (λ r. IfOk r (λ b. F.agree c.read_named-front.new.reports ≡ true
    → IsFileOf (λ all. b.items ≡ take 8 all) entry))
    (given-ok c.as_str-path.result.now c.read_named-front.result c.in-Ok-or_stopped.front
    c.in-Ok-or_stopped.ensures.given)
    c.read_named-front.ensures.bytes agree in
    stopped_at name ((is_foreign entry ≡ true) ⊎ (F.can_refuse ⊎ F.reads_can_fail)) c.cannot_open.result
    (subst (λ n. IsStoppedAt n c.cannot_open.result) c.as_str-path.ensures c.cannot_open.ensures.path)
    (inl (foreign_front entry c.in-Ok-or_stopped.front.items read
    ∙ ap not (ap is_replaceable (sym c.as_slice.ensures.value) ∙ sym c.is_replaceable.ensures
    ∙ c.if-is_replaceable.false)))

-- Each archive was found, or the first that is missing can't be opened.
use Rattle.std.proofs.Common.{◌≡◌, ◌⊎◌, inl, inr, ⊎_elim, subst, map, Some, None, slice_get}
use Rattle.named_archives.specs.Names.{files_of}
use Rattle.named_files.specs.Refusals.{HasCause}
use Rattle.mairix_run.proofs.FilesAt.{all-found, before-found, file-missing, named-at}
use Rattle.mairix_run.proofs.NamesUsed.{among-names}
use Rattle.mairix_run.proofs.RunStages.{missing-stops}
use Rattle.mairix_run.specs.Stops.{IsStoppedAt}
use Rattle.mairix_run.specs.Tasks.{files_at}
use Rattle.mairix_run.proofs.program.states_of.Goals as goal

pub returns-in-Ok-clause-ok : goal.returns-in-Ok-clause-ok
returns-in-Ok-clause-ok g c = λ agree.
    let F = g.F.Folder in
    all-found g.F.Name.FileName.text (F.holds c.args.folder.now) c.args.names.now (F.agree c.first_states.new.reports)
    (F.agree c.args.reports.now) c.in-Ok.ensures.noted agree

pub returns-in-Refused-clause-err : goal.returns-in-Refused-clause-err
returns-in-Refused-clause-err g c = λ agree.
    let F = g.F.Folder in
    let holds = F.holds c.args.folder.now in
    let text = g.F.Name.FileName.text in
    let names = c.args.names.now in
    let n = c.in-Err.field-0.number in
    let name = c.index-names-number.result in
    missing-stops (map text names) F.can_refuse F.reads_can_fail (files_at holds (map text names)) (text name)
    c.cannot_open.result (among-names text names n name c.index-names-number.is c.in-Err.ensures.refused.0)
    (subst (λ p. IsStoppedAt p c.cannot_open.result) c.as_str.ensures c.cannot_open.ensures.path)
    (⊎_elim (λ none. inl (file-missing text holds names n (text name)
    (before-found text holds names n (F.agree c.first_states.new.reports) (F.agree c.args.reports.now)
    c.in-Err.ensures.opened agree) none (named-at text names n name c.in-Err.ensures.refused.0
    c.index-names-number.is)))
    inr (subst (λ w. HasCause w ((slice_get (files_of text holds names) n ≡ Some None) ⊎ F.can_refuse
    ⊎ F.reads_can_fail))
    c.in-Refused.is c.in-Err.ensures.refused.1))

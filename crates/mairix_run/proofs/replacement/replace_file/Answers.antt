-- An index or an answer is put into a file: the file isn't made, or it is made, filled and settled.
use Rattle.std.proofs.Common.{◌≡◌, ◌∙◌, ◌⊎◌, ◌+◌, inr, sym, subst, true, [], ◌∷◌, map, Some}
use Rattle.std.specs.Option.{option_map_or}
use Rattle.named_archives.specs.Names.{files_of}
use Rattle.named_archives.specs.Progress.{CannotRead}
use Rattle.mairix_run.proofs.MadeRuns.{all-after, files-same, fit-same, kept-replaced, made-settled, none-made}
use Rattle.mairix_run.proofs.FirstStates.{ok-ended, ok-settled}
use Rattle.mairix_run.proofs.Written.{once-failed, written-weaker}
use Rattle.mairix_run.specs.Inside.RunParts.{ReplacesFile}
use Rattle.mairix_run.specs.ReadFiles.{names_read}
use Rattle.mairix_run.specs.WholeRuns.{IsWritten}
use Rattle.mairix_run.proofs.replacement.replace_file.Goals as goal

-- ---- it isn't made

pub returns-in-Err-clause-run : goal.returns-in-Err-clause-run
returns-in-Err-clause-run g c = λ bytes files agree.
    let text = g.F.Name.FileName.text in
    kept-replaced g.F.Folder c.args.files.now.folder (names_read text c.args.read.now) (text c.args.names.now.name)
    (g.F.Folder.agree c.args.files.now.reads ≡ true) (g.C.Content.work c.args.content.now bytes)
    (g.met.F.Folder.only_now c.args.files.now.folder) c.in-Err.stopped (c.in-Err.ensures.stopped bytes agree)

pub returns-in-Err-create_file-clause-run : goal.returns-in-Err-create_file-clause-run
returns-in-Err-create_file-clause-run g c = λ bytes files agree.
    let old = c.args.files.now.folder in
    let failed = c.in-Err-create_file.ensures in
    none-made g.F.Folder old (names_read g.F.Name.FileName.text c.args.read.now)
    (g.F.Name.FileName.text c.args.names.now.name) (g.F.Folder.agree c.args.files.now.reads ≡ true)
    (g.C.Content.work c.args.content.now bytes) (g.met.F.Folder.only_now old) c.create_file.new.folder
    c.in-Err-create_file.stopped
    (g.F.Name.FileName.text c.args.names.now.temporary) (sym c.requires.temporary)
    (c.in_default.ensures.replaceable bytes (failed.reports.earlier agree))
    (record { none = failed.refused agree; others = failed.others; calls = failed.calls })

-- ---- it is made

pub returns-clause-run : goal.returns-clause-run
returns-clause-run g c = λ bytes files agree.
    let F = g.F.Folder in
    let N = g.F.New.Out in
    let old = c.args.files.now.folder in
    let name = g.F.Name.FileName.text c.args.names.now.name in
    let read = names_read g.F.Name.FileName.text c.args.read.now in
    let text = g.F.Name.FileName.text in
    let temporary = text c.args.names.now.temporary in
    let archives = c.args.read.now.archives.now in
    let work = g.C.Content.work c.args.content.now bytes in
    let filled = c.write-written.new.out in
    let result = c.write-written.result in
    let mid = c.create_file.new.folder in
    let ReadsAgree = F.agree c.write-written.new.reports ≡ true in
    let serves = c.in-Ok.ensures.serves agree in
    let still : files_of text (F.holds mid) archives ≡ map Some bytes =
    files-same text (F.holds old) (F.holds mid) archives
    (all-after (λ n. F.holds mid n ≡ F.holds old n)
    (text c.args.read.now.rcfile.now ∷ option_map_or (λ database. text database.now ∷ []) c.args.read.now.database [])
    (map text archives) (fit-same F old read name mid temporary serves.fit c.in-Ok.ensures.others.others))
    ∙ files in
    let OutFails = F.can_refuse ⊎ F.writes_can_fail in
    let ReadFails = CannotRead F.can_refuse F.reads_can_fail in
    let failures = N.failures c.in-Ok.new in
    let written : ReadsAgree → IsWritten OutFails ReadFails work (Some []) (N.taken filled) result = λ reads.
    subst (λ t. IsWritten OutFails ReadFails work t (N.taken filled) result) c.in-Ok.ensures.empty.0
    (written-weaker (N.failures filled ≡ failures + 1) OutFails ReadFails work (N.taken c.in-Ok.new) (N.taken filled)
    result (λ is. inr (g.met.F.Folder.writes_fail filled (once-failed failures (N.failures filled) is)))
    (c.write-written.ensures.written bytes
    (subst (λ names. files_of text (F.holds mid) names ≡ map Some bytes) (sym c.requires.names) still) reads)) in
    subst (λ ended. ReplacesFile F ReadsAgree work read name old c.settle_file.new.folder ended)
    (sym c.status_or_stopped.ensures)
    (made-settled F old read name ReadsAgree work (g.met.F.Folder.only_now old) mid c.settle_file.new.folder
    (N.taken filled)
    result
    c.settle_file.result temporary (sym c.requires.temporary) (record {
      serves = serves;
      others = c.in-Ok.ensures.others;
      made = c.in-Ok.ensures.calls;
      settled = c.settle_file.ensures.status;
      refused = c.settle_file.ensures.refused;
      named = c.settle_file.ensures.named;
      given_up = c.settle_file.ensures.not_named;
      names = c.settle_file.ensures.others;
      settling = c.settle_file.ensures.any_moment;
      calls = c.settle_file.ensures.calls;
    }) (c.in_default.ensures.replaceable bytes (c.in-Ok.ensures.reports.earlier agree)) written)

pub returns-clause-in_state : goal.returns-clause-in_state
returns-clause-in_state g c =
    let AreFound = g.C.Content.are_found c.args.content.now (g.F.Folder.found c.args.files.now.reads)
    (g.F.Folder.found c.write-written.new.reports) in
    ok-ended AreFound c.settle_file.result c.status_or_stopped.result c.status_or_stopped.ensures
    (ok-settled AreFound c.write-written.result c.settle_file.result c.settle_file.ensures.status
    c.write-written.ensures.in_state)

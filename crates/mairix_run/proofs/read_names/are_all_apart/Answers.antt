-- The rcfile and the index were apart, so all are apart exactly if the archives are.
use Rattle.std.proofs.Common.{rules, ◌≡◌, true, Bool, List, ℕ, Bor}
use Rattle.std.specs.Option.{option_map_or}
use Rattle.mairix_run.proofs.ReadFiles.{all_exact}
use Rattle.mairix_run.proofs.read_names.are_all_apart.Goals as goal

pub returns-clause-exact : goal.returns-clause-exact
returns-clause-exact g c =
    let F = g.F.Folder in
    let text = g.F.Name.FileName.text in
    let names = c.args.read.now in
    let f : List ℕ → Bool = λ read. F.apart c.args.folder.now read (g.F.Name.FileName.text c.args.name.now) in
    let first : F.agree c.are_apart.new.reports ≡ true → f (text names.rcfile.now) ≡ true = search rules in
    let one : F.agree c.are_apart.new.reports ≡ true
    → option_map_or (λ (d : Bor g.row.F-Name.Denot). f (text d.now)) names.database true ≡ true = search rules in
    all_exact f (λ (d : Bor g.row.F-Name.Denot). text d.now) names.database text names.archives.now
    (text names.rcfile.now) (F.agree c.are_apart.new.reports ≡ true) c.are_apart.result first one
    c.are_apart.ensures.exact

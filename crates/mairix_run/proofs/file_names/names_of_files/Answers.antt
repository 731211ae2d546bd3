-- The archives' names are made, then the index's, and then those of the new file.
use Rattle.std.proofs.Common.{◌∷◌, ◌∙◌, ap, subst, ℕ, List}
use Rattle.mairix_run.proofs.AskedNames.{given_archives, given_database, given_file}
use Rattle.mairix_run.specs.AskedNames.{AsksFor}
use Rattle.mairix_run.specs.NamesUsed.{names_given}
use Rattle.mairix_run.proofs.file_names.names_of_files.Given.{Over}
use Rattle.mairix_run.proofs.file_names.names_of_files.Goals.{After-name, After-names_of_file}
use Rattle.mairix_run.proofs.file_names.names_of_files.Goals as goal

-- those of the archives, and the index's
first : (g : Over) (c : After-name g) → AsksFor (names_given c.args.plan.now c.args.rc.now)
    (g.F.Folder.agree c.args.files.now.reports) (g.F.Folder.made c.args.names.now) (g.F.Folder.made c.name.new.names)
first g c =
    let p = c.args.plan.now in
    let rc = c.args.rc.now in
    let agree = g.F.Folder.agree c.args.files.now.reports in
    let old = g.F.Folder.made c.args.names.now in
    let mid = g.F.Folder.made c.names_of.new.names in
    let new = g.F.Folder.made c.name.new.names in
    given_database p rc agree old mid new (given_archives p rc agree old old mid
    (subst (λ (paths : List (List ℕ)). AsksFor paths agree old mid) c.as_slice.ensures c.names_of.ensures.asked))
    (c.name.ensures.noted ∙ ap (λ n. (n, agree) ∷ mid) c.as_str.ensures)

-- all of them
all : (g : Over) (c : After-names_of_file g)
    → AsksFor (names_given c.args.plan.now c.args.rc.now) (g.F.Folder.agree c.args.files.now.reports)
    (g.F.Folder.made c.args.names.now) (g.F.Folder.made c.name.new.names)
    → AsksFor (names_given c.args.plan.now c.args.rc.now)
    (g.F.Folder.agree c.args.files.now.reports) (g.F.Folder.made c.args.names.now)
    (g.F.Folder.made c.names_of_file.new.names)
all g c first =
    let made = g.F.Folder.made in
    given_file c.args.plan.now c.args.rc.now (g.F.Folder.agree c.args.files.now.reports) (made c.args.names.now)
    (made c.name.new.names) (made c.names_of_file.new.names) first c.names_of_file.ensures.asked

pub returns-in_err-database-clause-asked : goal.returns-in_err-database-clause-asked
returns-in_err-database-clause-asked g c = first g (goal.at.returns-in_err-database-clause-asked g c).After-name

pub returns-in_err-file-clause-asked : goal.returns-in_err-file-clause-asked
returns-in_err-file-clause-asked g c =
    let at = goal.at.returns-in_err-file-clause-asked g c in all g at.After-names_of_file (first g at.After-name)

pub returns-clause-asked : goal.returns-clause-asked
returns-clause-asked g c =
    let at = goal.at.returns-clause-asked g c in all g at.After-names_of_file (first g at.After-name)

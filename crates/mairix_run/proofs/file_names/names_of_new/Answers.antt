-- A name is made, and its temporary name.
use Rattle.std.proofs.Common.{◌≡◌, ◌∙◌, ◌∷◌, ◌++◌, [], Some, sym, subst}
use Rattle.std.specs.List.{Contains}
use Rattle.mairix_run.proofs.AskedNames.{asks_one, asks_then}
use Rattle.mairix_run.proofs.NamesUsed.{contains-first, contains-more}
use Rattle.mairix_run.specs.AskedNames.{AsksFor}
use Rattle.mairix_run.specs.NamesUsed.{both_names}
use Rattle.mairix_run.specs.WholeRuns.{temporary_of}
use Rattle.mairix_run.proofs.file_names.names_of_new.Given.{Over}
use Rattle.mairix_run.proofs.file_names.names_of_new.Goals.{After-name, After-name-2}
use Rattle.mairix_run.proofs.file_names.names_of_new.Goals as goal

-- the first one
own : (g : Over) (c : After-name g) → AsksFor (both_names (Some c.args.name.now))
    (g.F.Folder.agree c.args.files.now.reports)
    (g.F.Folder.made c.args.names.now) (g.F.Folder.made c.name.new.names)
own g c =
    let name = c.args.name.now in
    asks_one (both_names (Some name)) (g.F.Folder.agree c.args.files.now.reports) (g.F.Folder.made c.args.names.now)
    (g.F.Folder.made c.name.new.names) name (contains-first name (temporary_of name ∷ [])) c.name.ensures.noted

-- both
both : (g : Over) (c : After-name-2 g) → AsksFor (both_names (Some c.args.name.now))
    (g.F.Folder.agree c.args.files.now.reports)
    (g.F.Folder.made c.args.names.now) (g.F.Folder.made c.name-2.new.names)
both g c =
    let name = c.args.name.now in
    let names = both_names (Some name) in
    let agree = g.F.Folder.agree c.args.files.now.reports in
    let made = g.F.Folder.made in
    let among : Contains names c.as_str.result.now =
    subst (λ n. Contains names n) (sym (c.as_str.ensures.value ∙ c.in_ok-temporary.ensures))
    (contains-more name (temporary_of name) (temporary_of name ∷ []) (contains-first (temporary_of name) [])) in
    asks_then names agree (made c.args.names.now) (made c.name.new.names) (made c.name-2.new.names)
    (asks_one names agree (made c.args.names.now) (made c.name.new.names) name
    (contains-first name (temporary_of name ∷ [])) c.name.ensures.noted)
    (asks_one names agree (made c.name.new.names) (made c.name-2.new.names) c.as_str.result.now among
    c.name-2.ensures.noted)

pub returns-in_err-name-clause-asked : goal.returns-in_err-name-clause-asked
returns-in_err-name-clause-asked g c = own g (goal.at.returns-in_err-name-clause-asked g c).After-name

pub returns-in_err-temporary-2-clause-asked : goal.returns-in_err-temporary-2-clause-asked
returns-in_err-temporary-2-clause-asked g c = both g (goal.at.returns-in_err-temporary-2-clause-asked g c).After-name-2

pub returns-clause-asked : goal.returns-clause-asked
returns-clause-asked g c = both g (goal.at.returns-clause-asked g c).After-name-2

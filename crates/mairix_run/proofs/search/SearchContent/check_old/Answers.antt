-- No file stays for an answer's sake.
use Rattle.std.specs.Option.{option_map}
use Rattle.mairix_run.proofs.MakingRuns.{search-not-kept}
use Rattle.mairix_tool.specs.Asked.{asks}
use Rattle.mairix_run.proofs.search.SearchContent.check_old.Goals as goal

pub returns-clause-replaceable : goal.returns-clause-replaceable
returns-clause-replaceable g c = λ bytes agree.
    let search = c.args.self.now in
    search-not-kept (asks search.words.now search.text.now search.moment) (option_map (λ i. i.now) search.index) bytes
    (g.F.Folder.holds c.args._folder.now (g.F.Name.FileName.text c.args._name.now))

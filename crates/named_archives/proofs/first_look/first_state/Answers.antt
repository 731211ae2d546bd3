-- The file is given back, whether its state could be taken or not.
use Rattle.std.proofs.Common.{◌≡◌, true, rules}
use Rattle.named_files.proofs.FoundStates.{adds-more}
use Rattle.named_archives.proofs.first_look.first_state.Goals as goal

pub returns-in-Ok-clause-reports : goal.returns-in-Ok-clause-reports
returns-in-Ok-clause-reports g c =
    let F = g.F.Folder in
    let old = c.args.reports.now in
    let new = c.take_back.new.reports in
    let earlier : F.agree new ≡ true → F.agree old ≡ true = search rules in
    let right : F.reports_are_right → F.agree new ≡ F.agree old = search rules in
    record {
      earlier = earlier;
      right = right;
      found = λ first h. adds-more first (F.found old) (F.found new)
          (g.F.File.KeptFile.state_found c.state-state.new.self)
          c.take_back.ensures.found h;
    }

pub returns-in-Err-clause-reports : goal.returns-in-Err-clause-reports
returns-in-Err-clause-reports g c =
    let F = g.F.Folder in
    let old = c.args.reports.now in
    let new = c.take_back.new.reports in
    let earlier : F.agree new ≡ true → F.agree old ≡ true = search rules in
    let right : F.reports_are_right → F.agree new ≡ F.agree old = search rules in
    record {
      earlier = earlier;
      right = right;
      found = λ first h. adds-more first (F.found old) (F.found new)
          (g.F.File.KeptFile.state_found c.state-state.new.self)
          c.take_back.ensures.found h;
    }

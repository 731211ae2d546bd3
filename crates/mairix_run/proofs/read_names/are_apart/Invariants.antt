-- If all that was reported agrees, each file so far is apart: so all are apart exactly if all that are left are.
use Rattle.std.proofs.Common.{◌≡◌, true, drop}
use Rattle.std.specs.List.{list_all}
use Rattle.mairix_run.proofs.read_names.are_apart.Given as goal

abbrev pub invariant-loop-one : goal.invariant-loop-one
invariant-loop-one g l =
    let F = g.F.Folder in
    let text = g.F.Name.FileName.text in
    record {
      left : F.agree l.reports ≡ true
          → list_all (λ read. F.apart l.folder (text read) (text l.name)) (drop l.one-index l.read)
          ≡ list_all (λ read. F.apart l.folder (text read) (text l.name)) l.read;
      earlier : F.agree l.reports ≡ true → F.agree l.fn.reports ≡ true;
      right : F.reports_are_right → F.agree l.reports ≡ F.agree l.fn.reports;
      found : F.found l.reports ≡ F.found l.fn.reports;
    }

-- If all reports agree, what was reported of each file does.
use Rattle.std.proofs.Common.{◌≡◌, ◌∙◌, ◌&&◌, true, List, All, sym, subst}
use Rattle.named_archives.specs.Names.{files_of}
use Rattle.named_archives.specs.Progress.{has_agreed}
use Rattle.named_archives.specs.declared.read_ahead.ReadAhead.{ReadAhead}
use Rattle.named_archives.proofs.Held.{held-all}
use Rattle.named_archives.proofs.Lists.{and-right, and-true}
use Rattle.named_archives.specs.States.{IsInOneOf}
use Rattle.named_files.proofs.FoundStates.{adds-front}
use Rattle.named_archives.proofs.named_archives.NamedArchives.report.Goals as goal

pub returns-clause-known : goal.returns-clause-known
returns-clause-known g c = λ agrees each.
    let a = c.args.self in
    let closed : g.F.Folder.agree c.close_open.new.self.closed ≡ true =
    (and-true (g.F.Folder.agree c.args.reports.now) _ (sym c.add_reports.ensures.agree ∙ agrees)).1 in
    held-all (g.F.Folder.agree a.closed && has_agreed {F = ReadAhead g.row.F-File.Denot g.row.F-File-State.Denot
    g.F.File.KeptFile g.F.File.Source} (λ x. g.F.File.Source.rest x.file) (λ x. g.F.File.KeptFile.bytes x.file)
    a.current) (files_of g.F.Name.FileName.text (g.F.Folder.holds a.folder.now) a.names.now)
    (sym c.close_open.ensures.noted ∙ closed) each

-- each file that was closed was found in one of the states
pub returns-clause-in_state : goal.returns-clause-in_state
returns-clause-in_state g c = λ none.
    let a = c.args.self in
    let closed = c.close_open.new.self in
    let found = g.F.Folder.found in
    let zero : closed.failures ≡ 0 = c.close_open.ensures.count ∙ none in
    let states : closed.states.now ≡ a.states.now = c.close_open.ensures.same.2 in
    record {
      more = found closed.closed;
      added = c.add_reports.ensures.found;
      passing = subst (λ (s : List g.row.F-File-State.Denot). All (IsInOneOf s) (found closed.closed)) states
          (closed.closed_in_state zero);
    }

pub returns-clause-reports : goal.returns-clause-reports
returns-clause-reports g c =
    let found = g.F.Folder.found in
    let closed = c.close_open.new.self in
    record {
      earlier = λ agrees. (and-true (g.F.Folder.agree c.args.reports.now) _
          (sym c.add_reports.ensures.agree ∙ agrees)).0;
      right = λ right. c.add_reports.ensures.agree
          ∙ and-right (g.F.Folder.agree c.args.reports.now) _ (closed.right right);
      found = λ first h. adds-front first (found c.args.reports.now) (found c.add_reports.new.reports)
          (found closed.closed) c.add_reports.ensures.found h;
    }

-- One more source agrees or not, and after the last one these are all sources.
use Rattle.std.proofs.Common.{◌≡◌, ◌∙◌, ◌++◌, [], ◌∷◌, List, Option, Global, IsSome, map, map-id, sym, ap}
use Rattle.std.proofs.lemmas.Iterator.Adapters.{YieldsList-from_vec}
use Rattle.std.proofs.lemmas.Iterator.Consumers.{YieldsList-end}
use Rattle.std.proofs.lemmas.List.Elements.{All-push}
use Rattle.named_files.specs.Entries.{bytes_of}
use Rattle.named_archives.specs.Progress.{has_agreed, bytes_left_in}
use Rattle.named_archives.proofs.Lists.{agree-more, and-true, first-true}
use Rattle.named_archives.proofs.Noted.{noted-push}
use Rattle.named_archives.specs.States.{noted_files}
use Rattle.named_files.proofs.FoundStates.{adds-front}
use Rattle.std.proofs.lemmas.List.{append_assoc, map_push}
use Rattle.named_archives.proofs.named_source.report_all.Goals as goal

pub loop-source-preserved : goal.loop-source-preserved
loop-source-preserved g c =
    let i = c.loop-source.invariant in
    let source = c.in-Some.source in
    let told = c.report.ensures in
    let found = g.F.File.KeptFile.state_found in
    let files : List (Option g.row.F-File.Denot) = map (λ s. s.file) c.loop-source.yielded in
    let one = noted_files found (source.file ∷ []) in
    record {
      noted = agree-more (λ s. has_agreed g.F.File.Source.rest g.F.File.KeptFile.bytes s.file) c.loop-source.yielded
          source (g.F.Folder.agree c.args.reports.now) (g.F.Folder.agree c.loop-source.reports)
          (g.F.Folder.agree c.report.new.reports) i.noted told.noted.noted;
      right = λ right. told.noted.right right ∙ i.right right;
      known = λ agrees. All-push (λ s. s.failures ≡ 0 → IsSome s.file
          → IsSome (bytes_left_in g.F.File.Source.rest
          (bytes_of (g.F.Folder.holds s.folder.now (g.F.Name.FileName.text s.name.now))) s.file
          s.progress)) c.loop-source.yielded source (i.known (first-true _ _ _ told.noted.noted agrees))
          (told.known agrees);
      found = told.found ∙ ap (λ l. one ++ l) i.found
          ∙ sym (append_assoc one (noted_files found files) (g.F.Folder.found c.args.reports.now))
          ∙ ap (λ l. l ++ g.F.Folder.found c.args.reports.now) (sym (noted-push found files source.file))
          ∙ ap (λ fs. noted_files found fs ++ g.F.Folder.found c.args.reports.now)
          (sym (map_push (λ s. s.file) c.loop-source.yielded source));
      stays = λ first h. adds-front first (g.F.Folder.found c.loop-source.reports)
          (g.F.Folder.found c.report.new.reports) one told.found (i.stays first h);
    }

pub returns-clause-noted : goal.returns-clause-noted
returns-clause-noted g c =
    let gives = c.into_iter-source-iterator.ensures.into_iter_gives in
    let all = YieldsList-end (YieldsList-from_vec {Z = Global} {s = c.into_iter-source-iterator.result}
    c.args.sources.items gives.0
    (gives.1 ∙ c.args.sources.ok.0)) c.loop-source.yielded c.loop-source.source-iterator
    c.loop-source.yielded_by c.next.result c.next.new.self c.in-None.is c.next.ensures.steps in
    let these : c.loop-source.yielded ≡ c.args.sources.items = sym (map-id _) ∙ all.0 in
    record { noted = rw these at c.loop-source.invariant.noted; right = c.loop-source.invariant.right }

pub returns-clause-found : goal.returns-clause-found
returns-clause-found g c =
    let gives = c.into_iter-source-iterator.ensures.into_iter_gives in
    let all = YieldsList-end (YieldsList-from_vec {Z = Global} {s = c.into_iter-source-iterator.result}
    c.args.sources.items gives.0
    (gives.1 ∙ c.args.sources.ok.0)) c.loop-source.yielded c.loop-source.source-iterator
    c.loop-source.yielded_by c.next.result c.next.new.self c.in-None.is c.next.ensures.steps in
    let these : c.loop-source.yielded ≡ c.args.sources.items = sym (map-id _) ∙ all.0 in
    rw these at c.loop-source.invariant.found

pub returns-clause-known : goal.returns-clause-known
returns-clause-known g c =
    let gives = c.into_iter-source-iterator.ensures.into_iter_gives in
    let all = YieldsList-end (YieldsList-from_vec {Z = Global} {s = c.into_iter-source-iterator.result}
    c.args.sources.items gives.0
    (gives.1 ∙ c.args.sources.ok.0)) c.loop-source.yielded c.loop-source.source-iterator
    c.loop-source.yielded_by c.next.result c.next.new.self c.in-None.is c.next.ensures.steps in
    let these : c.loop-source.yielded ≡ c.args.sources.items = sym (map-id _) ∙ all.0 in
    rw these at c.loop-source.invariant.known

pub returns-clause-reports : goal.returns-clause-reports
returns-clause-reports g c =
    let i = c.loop-source.invariant in
    record {
      earlier = λ agrees. (and-true (g.F.Folder.agree c.args.reports.now) _ (sym i.noted ∙ agrees)).0;
      right = i.right;
      found = i.stays;
    }

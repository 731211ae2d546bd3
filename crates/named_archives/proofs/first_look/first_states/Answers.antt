-- One more name has one more state, and what is reported of its file.
use Rattle.std.proofs.Common.{◌≡◌, ◌∙◌, ◌<◌, ◌≤◌, ◌+◌, ◌&&◌, ℕ, true, not, List, [], ◌∷◌, ◌++◌, Option, Some, is_some, is_ok, length, take, length-take-le, sym, ap, subst, arith}
use Rattle.std.specs.List.{list_all}
use Rattle.std.proofs.lemmas.List.{length-map}
use Rattle.named_files.specs.Entries.{bytes_of}
use Rattle.named_archives.specs.Names.{files_of}
use Rattle.named_archives.specs.States.{AreStatesOf, noted_states}
use Rattle.named_archives.proofs.Lists.{agree-more}
use Rattle.named_archives.proofs.Noted.{noted-more}
use Rattle.named_archives.proofs.States.{files-more, states-more}
use Rattle.named_archives.proofs.first_look.first_states.Goals as goal

pub loop-number-preserved : goal.loop-number-preserved
loop-number-preserved g c =
    let i = c.loop-number.invariant in
    let holds = g.F.Folder.holds c.args.folder.now in
    let found = g.F.File.KeptFile.state_found in
    let rest = g.F.File.Source.rest in
    let n : ℕ = c.loop-number.number in
    let text = g.F.Name.FileName.text in
    let names : List g.row.F-Name.Denot = c.args.names.now in
    let name : g.row.F-Name.Denot = c.index-names-number.result in
    let states : List g.row.F-File-State.Denot = c.loop-number.states.items in
    let below : n < length names = omega arith in
    let file : Option (List ℕ) = bytes_of (holds (text name)) in
    let files : List (Option (List ℕ)) = files_of text holds (take n names) in
    let more : files_of text holds (take (n + 1) names) ≡ files ++ file ∷ [] =
    files-more text holds names n name below c.index-names-number.is in
    let told = c.in-Ok.ensures in
    let pushed : is_ok c.push.result ≡ true = c.is_err.ensures.negation ∙ ap not c.if-is_err.false in
    let items : c.push.new.self.items ≡ states ++ c.in-Ok.state ∷ [] = rw pushed at c.push.ensures.items in
    let within : n ≤ length names = omega arith in
    let long : length files ≡ length states = length-map (take n names) _ ∙ length-take-le n names within
    ∙ sym i.count ∙ c.loop-number.states.ok.0 in
    let old = g.F.Folder.agree c.args.reports.now in
    let mid = g.F.Folder.agree c.loop-number.reports in
    let noted : g.F.Folder.agree c.first_state.new.reports ≡ (mid && is_some file) =
    told.noted in
    record {
      count = omega (arith, i.count, rw pushed at c.push.ensures.len);
      states = subst (λ (fs : List (Option (List ℕ))). AreStatesOf found rest fs c.push.new.self.items) (sym more)
          (subst (λ (ss : List g.row.F-File-State.Denot). AreStatesOf found rest (files ++ file ∷ []) ss) (sym items)
          (states-more found rest files states file c.in-Ok.state long i.states
          told.state));
      noted = agree-more (λ f. is_some f) files file old mid (g.F.Folder.agree c.first_state.new.reports) i.noted noted
          ∙ ap (λ fs. old && list_all (λ f. is_some f) fs) (sym more);
      right = λ right. told.reports.right right ∙ i.right right;
      found = told.found ∙ ap (λ l. Some c.in-Ok.state ∷ l) i.found
          ∙ ap (λ l. l ++ g.F.Folder.found c.args.reports.now) (sym (noted-more states c.in-Ok.state))
          ∙ ap (λ l. noted_states l ++ g.F.Folder.found c.args.reports.now) (sym items);
      stays = λ first h. told.reports.found first (i.stays first h);
    }

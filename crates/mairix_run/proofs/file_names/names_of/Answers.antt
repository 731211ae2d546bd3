-- One more name is made.
use Rattle.std.proofs.Common.{◌≡◌, ◌∙◌, ◌∷◌, ◌++◌, [], ℕ, List, map, string_bytes, String, Global, take, get_or, ap, sym, subst}
use Rattle.std.proofs.lemmas.List.{map_push, take_more}
use Rattle.std.specs.List.{Contains}
use Rattle.mairix_run.proofs.AskedNames.{asks_none, asks_one, asks_then}
use Rattle.mairix_run.proofs.NamesUsed.{among-names}
use Rattle.mairix_run.specs.AskedNames.{AsksFor}
use Rattle.mairix_run.proofs.file_names.names_of.Given.{Over}
use Rattle.mairix_run.proofs.file_names.names_of.Goals.{After-name}
use Rattle.mairix_run.proofs.file_names.names_of.Goals as goal

-- the names so far, and one more
asked : (g : Over) (c : After-name g) → AsksFor (map string_bytes c.args.texts.now)
    (g.F.Folder.agree c.args.files.now.reports)
    (g.F.Folder.made c.args.names.now) (g.F.Folder.made c.name.new.names)
asked g c =
    let texts = c.args.texts.now in
    let names = map string_bytes texts in
    let agree = g.F.Folder.agree c.args.files.now.reports in
    let made = g.F.Folder.made in
    let among : Contains names c.as_str.result.now = subst (λ n. Contains names n) (sym c.as_str.ensures.value)
    (among-names string_bytes texts c.loop-text.text-index c.text-item.result c.text-item.is c.loop-text-test.true) in
    asks_then names agree (made c.args.names.now) (made c.loop-text.names) (made c.name.new.names)
    c.loop-text.invariant.asked
    (asks_one names agree (made c.loop-text.names) (made c.name.new.names) c.as_str.result.now among
    c.name.ensures.noted)

pub loop-text-init : goal.loop-text-init
loop-text-init g c = record {
  text = ap (map g.F.Name.FileName.text) c.in_ok-made.ensures.items;
  asked = asks_none (map string_bytes c.args.texts.now) (g.F.Folder.agree c.args.files.now.reports)
      (g.F.Folder.made c.args.names.now);
}

pub loop-text-preserved : goal.loop-text-preserved
loop-text-preserved g c =
    let text = g.F.Name.FileName.text in
    let texts : List (String Global) = c.args.texts.now in
    let one : String Global = c.text-item.result in
    let n : ℕ = c.loop-text.text-index in
    let named : text c.in_ok-name.name ≡ string_bytes one = c.in_ok-name.ensures.text ∙ c.as_str.ensures.value in
    record {
      text = ap (map text) c.in_ok-push.ensures.items ∙ map_push text c.loop-text.made.items c.in_ok-name.name
          ∙ ap (λ l. l ++ text c.in_ok-name.name ∷ []) c.loop-text.invariant.text
          ∙ ap (λ m. map string_bytes (take n texts) ++ m ∷ []) (named ∙ ap string_bytes c.text-item.is)
          ∙ sym (map_push string_bytes (take n texts) (get_or texts n one))
          ∙ sym (ap (map string_bytes) (take_more texts n one c.loop-text-test.true));
      asked = asked g (goal.at.loop-text-preserved g c).After-name;
    }

pub returns-in_err-name-clause-asked : goal.returns-in_err-name-clause-asked
returns-in_err-name-clause-asked g c = asked g (goal.at.returns-in_err-name-clause-asked g c).After-name

pub returns-in_err-push-clause-asked : goal.returns-in_err-push-clause-asked
returns-in_err-push-clause-asked g c = asked g (goal.at.returns-in_err-push-clause-asked g c).After-name

pub returns-in_err-made-clause-asked : goal.returns-in_err-made-clause-asked
returns-in_err-made-clause-asked g c = asks_none (map string_bytes c.args.texts.now)
    (g.F.Folder.agree c.args.files.now.reports)
    (g.F.Folder.made c.args.names.now)

-- `IndexView::look_up` takes the steps of a search among the keys of the file.
use Rattle.mail_index.proofs.Words.{◌∙◌, List, ap, rules, arith, common_steps, Key, comparisons, add_steps}
use Rattle.mail_index.proofs.view.index_view.IndexView.look_up.Goals as goal

pub returns-clause-exact : goal.returns-clause-exact
returns-clause-exact c = c.look_up.ensures.exact
    ∙ ap (λ (ks : List Key). add_steps c.args.steps.now (comparisons c.args.kind c.args.text.now ks))
    c.compared_keys.ensures

pub returns-clause-steps : goal.returns-clause-steps
returns-clause-steps c = grind (arith, add_steps, rules, common_steps)

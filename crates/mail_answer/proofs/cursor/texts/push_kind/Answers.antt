-- `push_kind` adds the lists of the keys that fit, because their numbers are those of messages.
use Rattle.mail_answer.proofs.Words.{◌≡◌, ◌∙◌, ℕ, Bool, List, length, refl, sym, ap, subst, arith, list_any, keys_of, keys_beginning, word_begins_with, texts_with, some_key, AreNumbers, any_text, numbers_passing, numbers_fitting}
use Rattle.mail_answer.proofs.CursorLaws.TextLemmas.{looked_up, sorted_keys, fitting_keys, kept_keys}
use Rattle.mail_answer.proofs.CursorLaws.Texts.{keys_numbers, beginning_numbers, list_numbers, found_left, fitting_left, all_left, looks_up_digits, looks_up_none, if_joins}
use Rattle.mail_answer.proofs.CursorLaws.LookUpSteps.{none_taken}
use Rattle.mail_answer.proofs.cursor.texts.push_kind.Goals as goal

pub push_list-requires : goal.push_list-requires
push_list-requires c =
    subst (λ n. AreNumbers n c.look_up.result) (sym c.message_count-count.ensures.count)
    (list_numbers _ _ _ _ c.requires
    c.look_up.ensures.numbers)

pub push_containing-requires : goal.push_containing-requires
push_containing-requires = grind (arith, keys_numbers)

pub push_all-requires : goal.push_all-requires
push_all-requires = grind (arith, beginning_numbers)

pub returns-in-Whole-clause-joins : goal.returns-in-Whole-clause-joins
returns-in-Whole-clause-joins = grind (arith, if_joins, looked_up, sorted_keys, found_left)

pub returns-in-Whole-clause-steps : goal.returns-in-Whole-clause-steps
returns-in-Whole-clause-steps = grind (arith, looks_up_digits)

pub returns-in-Whole-clause-exact : goal.returns-in-Whole-clause-exact
returns-in-Whole-clause-exact c = rw c.in-Whole.is c.look_up.ensures.exact

pub returns-in-Within : goal.returns-in-Within
returns-in-Within = grind (arith, if_joins, fitting_keys, fitting_left, looks_up_none, none_taken)

pub returns-in-Front : goal.returns-in-Front
returns-in-Front c =
    let passes : List ℕ → Bool = word_begins_with c.args.text.now in
    rw c.in-Front.is
    (record {
      joins =
          if_joins c.push_all.result (λ n. some_key any_text n c.keys_beginning.result)
          (λ n. list_any passes (texts_with c.args.kind n c.args.index.now.keys))
          (numbers_passing any_text c.keys_beginning.result)
          (numbers_fitting passes c.args.index.now.keys c.args.kind) c.args.members.now.items
          c.push_all.new.members.items c.push_all.ensures
          (λ n. fitting_keys passes n (keys_of c.args.kind c.args.index.now.keys)
          ∙ kept_keys passes n (keys_of c.args.kind c.args.index.now.keys)
          ∙ sym (ap (some_key any_text n) c.keys_beginning.ensures))
          (let same : numbers_passing any_text c.keys_beginning.result
          ≡ numbers_fitting passes c.args.index.now.keys c.args.kind =
          ap (numbers_passing any_text) c.keys_beginning.ensures
          ∙ all_left (keys_beginning c.args.kind c.args.text.now c.args.index.now.keys)
          in omega (arith, same));
      steps = looks_up_none (length c.args.index.now.keys) c.args.steps.now c.args.steps.now refl;
      exact = none_taken c.args.steps.now c.args.steps.now refl;
    })

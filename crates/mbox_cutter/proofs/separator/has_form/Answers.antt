-- `has_form` compares a text with a form sign by sign, because a text of another length doesn't have the form.
use Rattle.mbox_cutter.proofs.Words.{◌≡◌, ◌∙◌, ◌&&◌, ℕ, Bool, nat_eq, List, [], ◌∷◌, length, refl, sym, arith, rules, tests, nat_tests, list_all, zip, has_form, stands_for}
use lib.Pointwise.{pointwise_long}
use Rattle.std.proofs.lemmas.Bool.{eqb-true}
use Rattle.std.proofs.lemmas.Iterator.{YieldsList-from_slice, YieldsList-from_zip}
use Rattle.std.proofs.lemmas.Iterator.Search.{all_from_yields_List}
use Rattle.std.specs.Cmp.Lexicographic.{pointwise}
use Rattle.mbox_cutter.proofs.FirstLines.{not_true}
use Rattle.mbox_cutter.proofs.separator.has_form.Goals as goal

abbrev fits : ℕ × ℕ → Bool
fits p = stands_for p.0 p.1

each_pair : (form text : List ℕ) → length form ≡ length text → list_all fits (zip form text)
    ≡ pointwise stands_for form text
each_pair [] [] same = refl
each_pair [] (b ∷ text) same = absurd (omega arith)
each_pair (s ∷ form) [] same = absurd (omega arith)
each_pair (s ∷ form) (b ∷ text) same = grind (arith, each_pair form text)

other_length : (form text : List ℕ) → (length form ≡ length text → ⊥) → nat_eq (length form) (length text)
    ≡ pointwise stands_for form text
other_length form text other =
    not_true _ (λ e. other (eqb-true (length form) (length text) e))
    ∙ sym (not_true _ (λ e. other (pointwise_long stands_for form text e)))

pub returns-then-form-text : goal.returns-then-form-text
unfolding has_form
returns-then-form-text c =
    all_from_yields_List fits c.all.new.self _ c.all.result c.all.ensures.ran
    (YieldsList-from_zip (YieldsList-from_slice c.args.form.now cc) (YieldsList-from_slice c.args.text.now cc))
    (λ x b q k. search (rules, tests))
    ∙ each_pair c.args.form.now c.args.text.now (grind (arith, nat_tests, c.if-form-text.true))

pub returns-else-form-text : goal.returns-else-form-text
unfolding has_form
returns-else-form-text c = grind (arith, other_length)

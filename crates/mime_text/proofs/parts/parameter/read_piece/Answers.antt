-- `read_piece` reads a name and, after a `=`, its value, because the name is all of the text before the bytes after it.
use Rattle.mime_text.proofs.Words.{◌≡◌, ◌∙◌, ◌-◌, ◌++◌, ℕ, List, sym, eq-eqb, split_while, after_blanks, without_outer_blanks, length-split_while, take-split_while, Parameter, is_parameter_name_byte, value_and_rest, arith}
use Rattle.mime_text.proofs.ParameterLemmas.{piece-parameter}
use Rattle.mime_text.proofs.parts.parameter.read_piece.Goals as goal

pub slice_bounds-name-count : goal.slice_bounds-name-count
slice_bounds-name-count c = grind (arith, length-split_while)

parameter_of : List ℕ → List ℕ → Parameter
parameter_of name value = record { name = name; value = value }

pub returns-in_ok-after-in-Some-clause-parameter : goal.returns-in_ok-after-in-Some-clause-parameter
unfolding parameter_of
returns-in_ok-after-in-Some-clause-parameter c =
    let text : List ℕ = c.args.text.now in
    let rest : List ℕ = c.in-Some.rest.now in
    let name : c.trimmed.result.now ≡ without_outer_blanks (split_while is_parameter_name_byte text).0 =
    grind (arith, take-split_while) in
    let value : c.read_value.new.into.items ≡ (value_and_rest (after_blanks rest)).0 =
    grind arith in
    cc (
      name,
      value,
      piece-parameter text rest c.in-Some.sign.now
          (sym c.after_name-tail.ensures ∙ c.in-Some.ensures.cases.0)
          (eq-eqb c.in-Some.sign.now 61 c.if-sign-eq61.true),
    )

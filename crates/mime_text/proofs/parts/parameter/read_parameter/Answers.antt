-- `read_parameter` writes the value of the first parameter with the name, because a piece with another name changes
-- nothing.
use Rattle.mime_text.proofs.Words.{false, option_map_or, ◌≡◌, ◌∙◌, Some, sym, option_map, first_named, parameters_after, parameter, [], arith}
use Rattle.header_text.specs.Names.{is_named}
use Rattle.mime_text.proofs.ParameterLemmas.{piece-other, piece-found, later-measure, parameter-size}
use Rattle.mime_text.proofs.parts.parameter.read_parameter.Goals as goal
use Rattle.mime_text.proofs.parts.parameter.read_parameter.Goals.{Then-is_named}

pub loop-rest-init : goal.loop-rest-init
unfolding parameter
loop-rest-init c = grind arith

found : (c : Then-is_named) → parameter c.args.name.now c.args.value.now ≡ Some c.read_piece.new.into.items
found c =
    let here : first_named c.args.name.now (parameters_after (Some c.in-Some.text.now))
    ≡ parameter c.args.name.now c.args.value.now = rw c.in-Some.is at c.loop-rest.invariant in
    sym here
    ∙ piece-found c.in_ok-piece.piece.name (λ a. a.now) c.args.name.now c.read_piece.new.into.items c.in-Some.text.now
    c.in_ok-piece.ensures.parameter (rw c.in-Some-name.is (sym c.is_named.ensures ∙ c.if-is_named.true))

pub returns-in-Some-clause-value : goal.returns-in-Some-clause-value
returns-in-Some-clause-value c = grind (arith, found)

pub returns-in-Some-clause-size : goal.returns-in-Some-clause-size
returns-in-Some-clause-size c = grind (arith, parameter-size, found)

pub loop-rest-smaller : goal.loop-rest-smaller
loop-rest-smaller c = later-measure c.loop-rest.rest (λ a. a.now) c.in-Some.text
    (option_map (λ rest. rest.now) c.in_ok-piece.piece.later) c.in-Some.is (sym c.in_ok-piece.ensures.later)

pub loop-rest-preserved : goal.loop-rest-preserved
loop-rest-preserved c =
    let here : first_named c.args.name.now (parameters_after (Some c.in-Some.text.now))
    ≡ parameter c.args.name.now c.args.value.now = rw c.in-Some.is at c.loop-rest.invariant in
    let other : option_map_or (λ text. is_named text.now c.args.name.now) c.in_ok-piece.piece.name false ≡ false =
    grind arith in
    cc (
      c.in_ok-piece.ensures.later,
      piece-other c.in_ok-piece.piece.name (λ a. a.now) c.args.name.now
          c.read_piece.new.into.items c.in-Some.text.now c.in_ok-piece.ensures.parameter other,
      here,
    )

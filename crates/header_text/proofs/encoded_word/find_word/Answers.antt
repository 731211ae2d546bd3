-- `find_word` returns the leftmost word, because a word begins with `=`, and none begins at an `=` before.
use Rattle.header_text.proofs.Words.{◌∷◌, length, sym, ap, arith, length-append, shown_word}
use Rattle.header_text.proofs.CutLemmas.{IsCut-from}
use Rattle.header_text.proofs.WordLaws.WordLemmas.{seen-more, seen-first, seen-end, seen-shorter}
use Rattle.header_text.proofs.encoded_word.find_word.Goals as goal

pub overflow_sub-result : goal.overflow_sub-result
overflow_sub-result c = omega (
  arith,
  seen-shorter c.args.value.now c.loop-after.rest.now c.in-Some.field-0-0.now
      c.in-Some.after.now c.loop-after.invariant c.in-Some.ensures,
)

pub slice_bounds-result-count : goal.slice_bounds-result-count
slice_bounds-result-count c = omega (
  arith,
  seen-shorter c.args.value.now c.loop-after.rest.now c.in-Some.field-0-0.now c.in-Some.after.now
      c.loop-after.invariant c.in-Some.ensures,
)

pub returns-in-Some-word_after-clause-pieces : goal.returns-in-Some-word_after-clause-pieces
returns-in-Some-word_after-clause-pieces c =
    (seen-first c.args.value.now c.loop-after.rest.now c.in-Some.field-0-0.now c.in-Some.after.now
    c.in-Some-word_after.later.now (shown_word c.in-Some-word_after.word)
    c.loop-after.invariant c.in-Some.ensures (sym c.in-Some-word_after.ensures)).found

pub returns-in-Some-word_after-clause-smaller : goal.returns-in-Some-word_after-clause-smaller
returns-in-Some-word_after-clause-smaller c =
    (seen-first c.args.value.now c.loop-after.rest.now c.in-Some.field-0-0.now c.in-Some.after.now
    c.in-Some-word_after.later.now (shown_word c.in-Some-word_after.word)
    c.loop-after.invariant c.in-Some.ensures (sym c.in-Some-word_after.ensures)).size

pub loop-after-smaller : goal.loop-after-smaller
loop-after-smaller c =
    let cut = IsCut-from 0x3D c.loop-after.rest.now c.in-Some.field-0-0.now c.in-Some.after.now
    (sym c.in-Some.ensures) in
    omega (arith, ap length cut.joined, length-append c.in-Some.field-0-0.now (0x3D ∷ c.in-Some.after.now))

pub loop-after-preserved : goal.loop-after-preserved
loop-after-preserved c =
    grind (arith, seen-more)

pub returns-clause-pieces : goal.returns-clause-pieces
returns-clause-pieces c = seen-end c.args.value.now c.loop-after.rest.now c.loop-after.invariant
    (sym c.in_default.ensures)

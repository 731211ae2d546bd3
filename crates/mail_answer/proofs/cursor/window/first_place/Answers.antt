-- `first_place` returns the first mark: the lowest bit of the first word that has a bit from the wanted place on.
use Rattle.mail_answer.proofs.Words.{arith}
use Rattle.mail_answer.proofs.CursorLaws.WindowMarks.{begins, found, goes_on, none_left, none_past}
use Rattle.mail_answer.proofs.cursor.window.first_place.Goals as goal

pub returns-then-number-words : goal.returns-then-number-words
returns-then-number-words c = none_past _ _ c.if-number-words.true

pub loop-word-init : goal.loop-word-init
loop-word-init c = begins _ _ c.if-number-words.false
    (λ i. omega (arith, c.type_inv.words i))

pub returns-then-number-words-2 : goal.returns-then-number-words-2
returns-then-number-words-2 c =
    none_left _ _ _ _ c.loop-word.invariant
    c.loop-word-test.true c.if-number-words-2.true

pub loop-word-preserved : goal.loop-word-preserved
loop-word-preserved c =
    goes_on _ _ _ _ c.loop-word.invariant
    c.loop-word-test.true c.if-number-words-2.false (λ i. omega (arith, c.type_inv.words i))

pub returns : goal.returns
returns c =
    found _ _ _ _ c.loop-word.invariant
    (omega (arith, c.loop-word-test.false))

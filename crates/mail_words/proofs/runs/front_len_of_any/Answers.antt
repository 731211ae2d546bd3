-- `front_len_of_any` adds up the bytes of each character, up to the first that isn't in the class.
use Rattle.mail_words.proofs.Imports.{sym, arith, ◌∙◌, length-encode}
use Rattle.mail_words.proofs.FrontReads.{front_read-pass, front_read-stop, front_read-end}
use Rattle.mail_words.proofs.runs.front_len_of_any.Goals as goal

pub returns-then-not-has : goal.returns-then-not-has
returns-then-not-has g c =
    let steps = c.in-Some.ensures.steps in
    steps.0 ∙ front_read-stop _ _ _ _ _ _ c.loop-len.invariant steps.1 (sym c.has.ensures ∙ c.if-not-has.true)

pub loop-len-preserved : goal.loop-len-preserved
loop-len-preserved g c =
    let steps = c.in-Some.ensures.steps in
    rw (steps.2, length-encode c.in-Some.c)
    (front_read-pass _ _ _ _ _ _ c.loop-len.invariant steps.1 (sym c.has.ensures ∙ c.if-not-has.false))

pub returns : goal.returns
returns g c =
    let inv = c.loop-len.invariant in
    let all = front_read-end _ _ _ _ inv c.in-None.ensures.steps.0 in
    omega (arith, inv.read.lengths, all, c.in-None.ensures.steps.0)

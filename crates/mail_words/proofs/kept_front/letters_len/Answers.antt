-- `letters_len` passes each kept letter, and stops at the first other character or at the end.
use Rattle.mail_words.proofs.Imports.{sym, arith, ◌∙◌, length-encode}
use Rattle.mail_words.proofs.FrontReads.{front_read-pass, front_read-stop, front_read-end}
use Rattle.mail_words.proofs.kept_front.letters_len.Goals as goal

pub returns-then-not-is_kept_letter : goal.returns-then-not-is_kept_letter
returns-then-not-is_kept_letter c =
    let steps = c.in-Some.ensures.steps in
    steps.0 ∙ front_read-stop _ _ _ _ _ _ c.loop-len.invariant steps.1
    (sym c.is_kept_letter.ensures ∙ c.if-not-is_kept_letter.true)

pub loop-len-preserved : goal.loop-len-preserved
loop-len-preserved c =
    let steps = c.in-Some.ensures.steps in
    rw (steps.2, length-encode c.in-Some.c)
    (front_read-pass _ _ _ _ _ _ c.loop-len.invariant steps.1
    (sym c.is_kept_letter.ensures ∙ c.if-not-is_kept_letter.false))

pub returns : goal.returns
returns c =
    let inv = c.loop-len.invariant in
    let all = front_read-end _ _ _ _ inv c.in-None.ensures.steps.0 in
    omega (arith, inv.read.lengths, all, c.in-None.ensures.steps.0)

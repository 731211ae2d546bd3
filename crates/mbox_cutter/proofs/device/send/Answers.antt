-- `send` writes all bytes, because each call writes a front of those that are left.
use Rattle.mbox_cutter.proofs.Words.{◌++◌, take, ◌∙◌, arith}
use Rattle.contract_words.proofs.Sending.{appends_join, send_step}
use Rattle.mbox_cutter.proofs.device.send.Goals as goal

pub loop-rest-preserved : goal.loop-rest-preserved
loop-rest-preserved g c =
    let before = c.loop-rest.invariant in
    let n = c.in_ok-n.n in (
      before.0 ++ take n c.loop-rest.rest.now,
      grind (arith, send_step),
      grind (arith, appends_join),
      c.in_ok-n.ensures.count ∙ before.3,
    )

-- `give_lines` gives each whole line in order and stops at the first fault. A line has at most 65,537 bytes.
use Rattle.mime_text.proofs.Words.{◌++◌, ℕ, List, arith, concat, line_end-positive, line_end-within, line_end-short, pairs_of_bytes}
use Rattle.mime_text.proofs.Handing.{fault-up, gave-more, broke-later}
use Rattle.mime_text.proofs.LineSteps.{rest-step, gave-line, broke-line}
use Rattle.mime_text.proofs.leaf.held_line.give_lines.Goals as goal

pub split_at-requires : goal.split_at-requires
split_at-requires g c = grind (arith, line_end-within)

pub give-requires : goal.give-requires
give-requires g c = omega (
  arith,
  line_end-short c.loop-len.rest.now c.in-Some.len c.in-Some.ensures,
  c.split_at.ensures.front_len,
)

pub loop-len-smaller : goal.loop-len-smaller
loop-len-smaller g c = grind (arith, line_end-positive, line_end-within)

pub loop-len-preserved : goal.loop-len-preserved
loop-len-preserved g c =
    let rest : List ℕ = c.loop-len.rest.now in
    let line : List ℕ = c.split_at.result.0.now in
    let later : List ℕ = c.split_at.result.1.now in
    let len : ℕ = c.in-Some.len in
    let before = c.loop-len.invariant in
    let within = line_end-within rest len c.in-Some.ensures in
    record {
      free = omega arith;
      few = omega arith;
      fits = omega arith;
      rest = grind (arith, rest-step);
      gave = gave-more g.S.TextSink.takes g.S.TextSink.refuses
          (λ ls. pairs_of_bytes c.args.texts.now (c.args.bytes.now ++ concat ls))
          (λ ls. pairs_of_bytes c.loop-len.texts (rest ++ concat ls))
          (λ ls. pairs_of_bytes c.give.new.self (later ++ concat ls)) c.args.sink.now c.loop-len.sink c.give.new.sink
          before.gave
          (gave-line g.S.TextSink.takes g.S.TextSink.refuses c.loop-len.texts c.give.new.self rest line later len
          c.loop-len.sink c.give.new.sink c.in-Some.ensures
          c.split_at.ensures.front c.split_at.ensures.back c.in_ok-give.ensures);
    }

pub returns-in_err-give-clause-broke : goal.returns-in_err-give-clause-broke
returns-in_err-give-clause-broke g c =
    let rest : List ℕ = c.loop-len.rest.now in
    rw (fault-up c.from_residual.result _ c.from_residual.ensures.1)
    (broke-later g.S.TextSink.takes g.S.TextSink.refuses
    (λ ls. pairs_of_bytes c.args.texts.now (c.args.bytes.now ++ concat ls))
    (λ ls. pairs_of_bytes c.loop-len.texts (rest ++ concat ls))
    _ _ _ _ c.loop-len.invariant.gave
    (broke-line g.S.TextSink.takes g.S.TextSink.refuses c.loop-len.texts rest c.split_at.result.0.now c.in-Some.len _ _
    _ c.in-Some.ensures
    c.split_at.ensures.front c.in_err-give.ensures))

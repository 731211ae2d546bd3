-- `Header::push_line` reads a line as the definition does, by the stage after it: open, full or ended.
use Rattle.header_text.proofs.Words.{◌≡◌, sym, arith, stage_after, Open, Full, Ended}
use Rattle.header_text.proofs.HeaderLaws.HeaderLemmas.{fields_size-with}
use Rattle.header_text.proofs.HeaderLaws.PushLemmas.{holds-counted, holds-skipped, holds-ended, has_empty-ended, never_ended, taken-next_ended, taken-next_more}
use Rattle.header_text.proofs.header.Header.push_line.Goals as goal

pub returns-in-Ended-clause-lines : goal.returns-in-Ended-clause-lines
returns-in-Ended-clause-lines c ls h = holds-ended _ _ _ _ ls c.args.line.now h c.in-Ended.is

pub returns-in-Ended-clause-taken : goal.returns-in-Ended-clause-taken
returns-in-Ended-clause-taken c ls h = grind (arith, has_empty-ended)

pub returns-in_err-self-in-Open-clause-ended : goal.returns-in_err-self-in-Open-clause-ended
returns-in_err-self-in-Open-clause-ended c ls h some =
    grind (arith, never_ended)

pub invariant_of-self-in-Open : goal.invariant_of-self-in-Open
invariant_of-self-in-Open c = grind (arith, fields_size-with)

pub returns-in_ok-self-in-Open : goal.returns-in_ok-self-in-Open
returns-in_ok-self-in-Open c =
    let opens : stage_after c.args.self.now.stage c.args.self.now.size c.args.line.now ≡ Open = sym c.in-Open.ensures
    in
    record {
      lines = λ ls h. holds-counted _ _ _ _ ls c.args.line.now h _ _ opens c.in_ok-self-in-Open.ensures.fields
          c.in_ok-self-in-Open.ensures.in_field;
      taken = grind (arith, taken-next_more);
      ended = grind (arith, never_ended);
      refused = tt;
    }

pub returns-in-Full : goal.returns-in-Full
returns-in-Full c =
    let fills : stage_after c.args.self.now.stage c.args.self.now.size c.args.line.now ≡ Full = sym c.in-Full.ensures
    in
    record {
      lines = λ ls h. holds-skipped _ _ _ _ ls c.args.line.now h Full fills (λ e. absurd (cc));
      taken = grind (arith, taken-next_more);
      ended = grind (arith, never_ended);
      refused = tt;
    }

pub returns-in-Ended-stage_after : goal.returns-in-Ended-stage_after
returns-in-Ended-stage_after c =
    let ends : stage_after c.args.self.now.stage c.args.self.now.size c.args.line.now ≡ Ended =
    sym c.in-Ended-stage_after.ensures in
    record {
      lines = λ ls h. holds-skipped _ _ _ _ ls c.args.line.now h Ended ends (λ e. absurd (cc));
      taken = grind (arith, taken-next_ended);
      ended = grind (arith, never_ended);
      refused = tt;
    }

-- `add_lines` adds a body line by line without its breaks, and nothing before the first byte that isn't a blank.
use Rattle.header_text.proofs.Words.{◌≡◌, ◌∙◌, ◌++◌, ℕ, List, ◌∷◌, length, nat_lt, sym, ap, arith, length-append, Extends-trans, added_part, without_final_cr}
use Rattle.header_text.proofs.CutLemmas.{IsCut, IsCut-from}
use Rattle.header_text.proofs.HeaderLaws.UnfoldLemmas.{without_final_cr-stripped, unfolds-line, unfolds-rest}
use Rattle.header_text.proofs.unfolding.add_lines.Goals as goal
use Rattle.header_text.proofs.unfolding.add_lines.Goals.{In_ok-add_part}

cut : (c : In_ok-add_part) → IsCut 0x0A c.loop-line.rest.now c.in-Some.line.now c.in-Some.after.now
cut c = IsCut-from 0x0A c.loop-line.rest.now c.in-Some.line.now c.in-Some.after.now (sym c.in-Some.ensures)

pub loop-line-smaller : goal.loop-line-smaller
loop-line-smaller c =
    let joined = (cut c).joined in
    omega (arith, ap length joined, length-append c.in-Some.line.now (0x0A ∷ c.in-Some.after.now))

pub loop-line-preserved : goal.loop-line-preserved
loop-line-preserved c =
    let line = c.in-Some.line.now in
    let items : List ℕ = c.loop-line.into.items in
    let added : c.add_part.new.into.items ≡ items ++ added_part (nat_lt (length c.args.into.now.items) (length items))
    (without_final_cr line) =
    grind (arith, without_final_cr-stripped) in
    record {
      sofar = unfolds-line c.args.into.now.items c.args.body.now items c.loop-line.rest.now line c.in-Some.after.now
          c.add_part.new.into.items c.loop-line.invariant.sofar (cut c) added;
      kept = Extends-trans _ _ _ c.loop-line.invariant.kept c.add_part.ensures.kept;
    }

pub returns-clause-text : goal.returns-clause-text
returns-clause-text c =
    let old = c.args.into.now.items in
    let all = unfolds-rest old c.args.body.now c.loop-line.into.items c.loop-line.rest.now c.add_part-2.new.into.items
    c.args.start c.requires c.loop-line.invariant.sofar (sym c.in_default.ensures) in
    grind (arith, all)

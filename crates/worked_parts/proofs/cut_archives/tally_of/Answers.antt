-- What was counted up to the end of the archive is all of it.
use Rattle.std.proofs.Common.{arith}
use Rattle.contract_words.specs.Knowledge.{still_known}
use Rattle.worked_parts.proofs.Tallies.{still-counted, tallied_on}
use Rattle.worked_parts.proofs.cut_archives.tally_of.Goals as goal

pub returns-in-Ok-Done : goal.returns-in-Ok-Done
returns-in-Ok-Done g c =
    let after = c.next_event.new.self in
    let a = c.next_event.ensures.advances in
    let last = g.S.Source.rest after.source.now in
    let begun = c.over-cutter.result.coming in
    let tallied = tallied_on begun c.events.cutter.coming (g.S.Source.rest c.events.cutter.source.now) last
    c.events.count c.events.bytes
    a.stays.known c.events.invariant.tallied in
    let counted = still-counted c.args.most (g.S.Source.rest c.args.source.now) begun last
    (still_known c.events.cutter.coming last) after.coming
    c.events.count c.events.bytes c.in-Ok-Done.field-0-0 c.over-cutter.ensures.coming tallied
    (rw (c.in-Ok-Done.is, c.in-Ok-Done.field-0-is) at a.answers) in
    grind (arith, counted)

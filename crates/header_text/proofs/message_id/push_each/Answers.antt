-- `push_each` adds the ids of a value text by text, because the text before each `>` has at most one.
use Rattle.header_text.proofs.Words.{◌≡◌, ◌∙◌, ◌++◌, [], ◌∷◌, length, sym, ap, arith, length-append, append_assoc, append-nil, closed_texts}
use Rattle.header_text.proofs.CutLemmas.{IsCut, IsCut-from, Lacks-from}
use Rattle.header_text.proofs.HeaderLaws.IdLemmas.{closed_texts-cut, closed_texts-free}
use Rattle.header_text.proofs.HeaderLaws.IdRanges.{ids_of-closed}
use Rattle.header_text.proofs.message_id.push_each.Goals as goal
use Rattle.header_text.proofs.message_id.push_each.Goals.{In_ok-push_id}

cut : (c : In_ok-push_id) → IsCut 0x3E c.loop-text.rest.now c.in-Some.text.now c.in-Some.after.now
cut c = IsCut-from 0x3E c.loop-text.rest.now c.in-Some.text.now c.in-Some.after.now (sym c.in-Some.ensures)

pub loop-text-smaller : goal.loop-text-smaller
loop-text-smaller c = let joined = (cut c).joined
    in omega (arith, ap length joined, length-append c.in-Some.text.now (0x3E ∷ c.in-Some.after.now))

pub loop-text-preserved : goal.loop-text-preserved
loop-text-preserved c =
    let text = c.in-Some.text.now in
    let after = c.in-Some.after.now in
    let texts : closed_texts c.loop-text.rest.now ≡ text ∷ closed_texts after =
    cc ((cut c).joined, closed_texts-cut text after (cut c).free) in
    grind (arith, append_assoc)

pub returns-clause-ids : goal.returns-clause-ids
returns-clause-ids c = grind (arith, append-nil, Lacks-from, closed_texts-free, ids_of-closed)

-- `decode_q_into` adds the text between two `_` unescaped, and a space for each `_`, because no escape has a `_` in it.
use Rattle.header_text.proofs.Words.{◌∙◌, ◌++◌, ℕ, List, [], ◌∷◌, length, sym, ap, arith, length-append, unescaped_bytes, q_bytes}
use Rattle.header_text.proofs.CutLemmas.{IsCut, IsCut-from, Lacks-from}
use Rattle.header_text.proofs.WordLaws.EscapeLemmas.{q_bytes-space, q_bytes-free, written, length-q_bytes}
use Rattle.header_text.proofs.escape.decode_q_into.Goals as goal
use Rattle.header_text.proofs.escape.decode_q_into.Goals.{In_ok-push}

cut : (c : In_ok-push) → IsCut 0x5F c.loop-stretch.rest.now c.in-Some.stretch.now c.in-Some.after.now
cut c = IsCut-from 0x5F c.loop-stretch.rest.now c.in-Some.stretch.now c.in-Some.after.now (sym c.in-Some.ensures)

pub loop-stretch-smaller : goal.loop-stretch-smaller
loop-stretch-smaller c = let joined = (cut c).joined
    in omega (arith, ap length joined, length-append c.in-Some.stretch.now (0x5F ∷ c.in-Some.after.now))

pub loop-stretch-preserved : goal.loop-stretch-preserved
loop-stretch-preserved c =
    let stretch = c.in-Some.stretch.now in
    let after = c.in-Some.after.now in
    let items : List ℕ = c.loop-stretch.into.items in
    cc (
      c.in_ok-push.ensures.items,
      c.in_ok-unescape_into.ensures.bytes,
      written items (unescaped_bytes stretch) (q_bytes after) 0x20,
      (cut c).joined,
      q_bytes-space stretch after (cut c).free,
      c.loop-stretch.invariant,
    )

pub returns-clause-bytes : goal.returns-clause-bytes
returns-clause-bytes c = grind (arith, Lacks-from, q_bytes-free)

pub returns-clause-size : goal.returns-clause-size
returns-clause-size c = let bytes = returns-clause-bytes c in grind (arith, length-append, length-q_bytes)

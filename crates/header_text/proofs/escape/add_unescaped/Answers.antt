-- `add_unescaped` adds the bytes up to each `=` as they are, and then what the `=` and the bytes after it mean.
use Rattle.header_text.proofs.Words.{◌≡◌, ◌∙◌, ◌≤◌, ◌++◌, ℕ, List, [], ◌∷◌, sym, arith, length-append, Extends-append, Extends-trans, unescaped_bytes, after_equals}
use Rattle.header_text.proofs.CutLemmas.{IsCut, IsCut-from, Lacks-from}
use Rattle.header_text.proofs.WordLaws.EscapeLemmas.{unescaped-step, unescaped-rest, written, length-after_equals}
use Rattle.header_text.proofs.escape.add_unescaped.Goals as goal
use Rattle.header_text.proofs.escape.add_unescaped.Goals.{In_ok-push}

cut : (c : In_ok-push) → IsCut 0x3D c.loop-plain.rest.now c.in-Some.plain.now c.in-Some.after.now
cut c = IsCut-from 0x3D c.loop-plain.rest.now c.in-Some.plain.now c.in-Some.after.now (sym c.in-Some.ensures)

later : (c : In_ok-push) → c.after_equals-byte.result.1.now ≡ (after_equals c.in-Some.after.now).1
later c = grind arith

pub loop-plain-smaller : goal.loop-plain-smaller
loop-plain-smaller c =
    let joined = (cut c).joined in
    grind (arith, later, length-after_equals, length-append)

pub loop-plain-preserved : goal.loop-plain-preserved
loop-plain-preserved c =
    let plain = c.in-Some.plain.now in
    let byte : ℕ = c.after_equals-byte.result.0 in
    let items : List ℕ = c.loop-plain.into.items in
    let after = unescaped_bytes c.after_equals-byte.result.1.now in
    let e : byte ≡ (after_equals c.in-Some.after.now).0 = grind arith in
    record {
      sofar = cc (
        c.in_ok-push.ensures.items,
        c.in_ok-add_plain.ensures.bytes,
        written items plain after byte,
        unescaped-step c.loop-plain.rest.now plain c.in-Some.after.now c.after_equals-byte.result.1.now byte (cut c) e
            (later c),
        c.loop-plain.invariant.sofar,
      );
      kept = Extends-append _ _ _ _ _ (Extends-trans _ _ _ c.loop-plain.invariant.kept c.add_plain.ensures.kept)
          c.push.ensures.items;
    }

pub returns-clause-bytes : goal.returns-clause-bytes
returns-clause-bytes c = grind (arith, Lacks-from, unescaped-rest)

-- `Nesting::delimit` leads where the definition does, because the outermost multipart that the line delimits counts.
use Rattle.mime_text.proofs.Words.{◌≡◌, ◌∙◌, ◌<◌, ℕ, List, Option, Some, sym, ap, arith, Bor, slice_get, option_map, length-take, Nest, dashes}
use Rattle.mime_text.proofs.FrameLemmas.{no_dashes, scanned, closing-leads, next-leads, AreNested-take, AreNested-at, got-at}
use Rattle.mime_text.proofs.parts.nesting.Nesting.delimit.Goals as goal

abbrev bytes_of : Option (Bor (List ℕ)) → Option (List ℕ)
bytes_of o = option_map (λ (b : Bor (List ℕ)). b.now) o

pub returns-in_default-clause-leads : goal.returns-in_default-clause-leads
returns-in_default-clause-leads c = grind (arith, no_dashes)

pub returns-in-None-clause-leads : goal.returns-in-None-clause-leads
returns-in-None-clause-leads c = grind (arith, scanned)

pub invariant_of-self : goal.invariant_of-self
invariant_of-self c = grind (arith, length-take, AreNested-take)

pub returns-in-Some-default-Closing-clause-leads : goal.returns-in-Some-default-Closing-clause-leads
returns-in-Some-default-Closing-clause-leads c =
    let e : dashes c.args.line.now ≡ Some c.in-Some.text.now = grind arith in
    closing-leads c.args.line.now c.in-Some.text.now c.args.self.now.frames c.self.inside.frames.items
    c.as_slice.result.now c.keep_outermost-self-inside.new.frames.items
    c.in-Some-default-Closing.at c.in-Some-default-Closing.field-0-1 (ap (λ (n : Nest). n.frames) (sym c.self.view_is))
    c.as_slice.ensures.value e
    c.in-Some-default-Closing.field-0-1-is c.in-Some-default-Closing.ensures.some
    c.keep_outermost-self-inside.ensures.frames

pub invariant_of-self-in-Some-default-Next : goal.invariant_of-self-in-Some-default-Next
invariant_of-self-in-Some-default-Next c = grind (arith, length-take, AreNested-take, AreNested-at, got-at)

pub returns-in-Some-default-Next-clause-leads : goal.returns-in-Some-default-Next-clause-leads
returns-in-Some-default-Next-clause-leads c =
    let e : dashes c.args.line.now ≡ Some c.in-Some.text.now = grind arith in
    let got : slice_get c.self.inside.frames.items c.in-Some-default-Next.at ≡ Some c.index.result.now =
    grind (arith, got-at) in
    next-leads c.args.line.now c.in-Some.text.now c.args.self.now.frames c.self.inside.frames.items
    c.as_slice.result.now c.keep_outermost-self-inside-in-Some-default-Next.new.frames.items
    c.in-Some-default-Next.at c.in-Some-default-Next.field-0-1 c.index.result.now
    (ap (λ (n : Nest). n.frames) (sym c.self.view_is)) c.as_slice.ensures.value e
    c.in-Some-default-Next.field-0-1-is c.in-Some-default-Next.ensures.some got
    c.keep_outermost-self-inside-in-Some-default-Next.ensures.frames

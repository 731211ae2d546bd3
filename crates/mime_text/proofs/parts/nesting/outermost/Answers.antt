-- `outermost` returns the first frame that the line delimits, because frames go from the outermost to the innermost.
use Rattle.mime_text.proofs.Words.{◌≡◌, ◌∙◌, suc, [], Option, Some, None, take, drop, ap, arith, add-one, slice_get, Delimiter, Pair, or_else, scan, place_after_delimiter, inside_out, delimiter_of}
use Rattle.mime_text.proofs.FrameLemmas.{scan-at, got-at, or_else-led}
use Rattle.mime_text.proofs.parts.nesting.outermost.Goals as goal

pub returns-in-Some-clause-some : goal.returns-in-Some-clause-some
returns-in-Some-clause-some c =
    let f = c.index-frames-at.result in
    let outer = inside_out (take c.loop-at.at c.args.frames.now) [] in
    let here : slice_get c.args.frames.now c.loop-at.at ≡ Some f =
    grind (arith, got-at) in
    let kind : delimiter_of f.boundary c.args.text.now ≡ Some c.in-Some.kind = cc in
    let later = scan {A = Pair} (inside_out (take (suc c.loop-at.at) c.args.frames.now) [])
    (drop (suc c.loop-at.at) c.args.frames.now) c.args.text.now in (
      f,
      here,
      cc (
        c.loop-at.invariant,
        scan-at c.args.text.now c.args.frames.now c.loop-at.at [] f here,
        kind,
        or_else-led c.in-Some.kind f outer later,
      ),
    )

pub loop-at-preserved : goal.loop-at-preserved
loop-at-preserved c =
    let f = c.index-frames-at.result in
    let outer = inside_out (take c.loop-at.at c.args.frames.now) [] in
    let here : slice_get c.args.frames.now c.loop-at.at ≡ Some f =
    grind (arith, got-at) in
    let kind : delimiter_of f.boundary c.args.text.now ≡ None = cc in
    rw add-one (c.loop-at.invariant ∙ scan-at c.args.text.now c.args.frames.now c.loop-at.at [] f here
    ∙ ap (λ (o : Option Delimiter). or_else (place_after_delimiter {A = Pair} o f outer)
    (scan (inside_out (take (suc c.loop-at.at) c.args.frames.now) []) (drop (suc c.loop-at.at) c.args.frames.now)
    c.args.text.now)) kind)

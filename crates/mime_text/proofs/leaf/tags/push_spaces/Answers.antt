-- `push_spaces` adds at most 64 spaces in a turn. It cuts between characters, because a space is one byte.
use Rattle.mime_text.proofs.Words.{◌≡◌, ◌∙◌, ◌-◌, ℕ, replicate, arith, take-replicate, IsCharBoundary-from_ascii}
use Rattle.mime_text.proofs.TagReads.{spaces-ascii, spaces-more}
use Rattle.mime_text.proofs.leaf.tags.push_spaces.Goals as goal

pub range-requires-clause-end_boundary : goal.range-requires-clause-end_boundary
range-requires-clause-end_boundary c = IsCharBoundary-from_ascii (replicate 64 0x20) c.min-some.result (spaces-ascii 64)
    (omega arith)

pub loop-left-preserved : goal.loop-left-preserved
loop-left-preserved c =
    let whole : c.min-some.result - 0 ≡ c.min-some.result = omega arith in
    let some : c.range.result.now ≡ replicate c.min-some.result 0x20 =
    cc (c.range.ensures.value, whole, take-replicate {X = ℕ} c.min-some.result 64 0x20 (omega arith)) in
    grind (arith, spaces-more)

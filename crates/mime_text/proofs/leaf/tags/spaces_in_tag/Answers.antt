-- `spaces_in_tag` returns a space for each byte, because in ASCII each byte is a character.
use Rattle.mime_text.proofs.Words.{◌≡◌, ◌∙◌, ◌-◌, ℕ, length, replicate, arith, take-replicate, Lacks, Lacks-from, IsCharBoundary-from_ascii, IsAscii}
use Rattle.mime_text.proofs.TagReads.{spaces-ascii, blank-line}
use Rattle.mime_text.proofs.leaf.tags.spaces_in_tag.Goals as goal

pub range-requires-clause-end_boundary : goal.range-requires-clause-end_boundary
range-requires-clause-end_boundary c = IsCharBoundary-from_ascii (replicate 64 0x20) (length c.args.line.now)
    (spaces-ascii 64) (omega arith)

pub returns-clause-text : goal.returns-clause-text
returns-clause-text c charset =
    let n : ℕ = length c.args.line.now in
    let whole : n - 0 ≡ n = omega arith in
    let spaces : c.range.result.now ≡ replicate n 0x20 =
    cc (c.range.ensures.value, whole, take-replicate {X = ℕ} n 64 0x20 (omega arith)) in
    let ascii : IsAscii c.args.line.now = grind arith in
    let lacks : Lacks 0x3E c.args.line.now = grind (arith, Lacks-from) in
    blank-line charset c.args.line.now c.range.result.now ascii lacks spaces

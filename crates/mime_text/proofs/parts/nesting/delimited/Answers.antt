-- `delimited` may try the innermost multipart first, because a line that delimits it delimits none of those from which
-- its boundary is apart.
use Rattle.mime_text.proofs.Words.{◌≡◌, ◌++◌, ◌∷◌, [], Some, rules, Pair, delimiter_of}
use Rattle.mime_text.proofs.FrameLemmas.{found-innermost}
use Rattle.mime_text.proofs.parts.nesting.delimited.Goals as goal

pub returns-clause-some : goal.returns-clause-some
returns-clause-some c =
    let f = c.in-Some.last.now in
    let outer = c.in-Some.outer.now in
    let parts : c.args.frames.now ≡ outer ++ f ∷ [] = search rules in
    let kind : delimiter_of f.boundary c.args.text.now ≡ Some c.in-Some-delimiter_after.kind = cc in
    found-innermost {A = Pair} c.args.frames.now outer f c.args.text.now c.in-Some-delimiter_after.kind parts
    (c.requires c.if-is_apart.true outer f parts) kind

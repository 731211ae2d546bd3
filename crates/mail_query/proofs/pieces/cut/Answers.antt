-- `cut` returns the two parts around the first sign, because a sign below 128 is one byte of the text.
use Rattle.mail_query.proofs.Words.{split_parts}
use Rattle.mail_query.proofs.PieceLemmas.{cut_answer}
use Rattle.mail_query.proofs.pieces.cut.Goals as goal

pub returns : goal.returns
returns c =
    let text = c.args.text.now in
    cut_answer c.args.sign text c.split_once.result
    (split_parts c.args.sign text c.split_once.result c.split_once.ensures.cases c.requires)

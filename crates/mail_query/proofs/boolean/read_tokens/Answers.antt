-- `read_tokens` returns what the definition does, because the reader is run over each token; the grammar bounds the
-- depth.
use Rattle.std.proofs.Common.{◌≡◌, Ok, arith}
use Rattle.mail_query.specs.Mail.{boolean_lexicon}
use Rattle.mail_query.specs.Query.{query_of}
use Rattle.mail_query.specs.Tokens.{query_tokens}
use Rattle.mail_query.specs.BooleanReading.{run_from, start}
use Rattle.mail_query.proofs.BooleanLaws.BooleanDepth.{reads_depth}
use Rattle.mail_query.proofs.BooleanLaws.BooleanTrees.{start_read}
use Rattle.mail_query.proofs.boolean.read_tokens.Goals as goal

pub new-requires : goal.new-requires
new-requires c =
    let lexicon = boolean_lexicon in
    let ts = query_tokens c.args.text.now in
    let q = query_of c.in-Ok.node in
    let asked : run_from lexicon 1 start ts ≡ Ok q = grind arith in
    omega (arith, reads_depth lexicon ts q (start_read lexicon ts q asked))

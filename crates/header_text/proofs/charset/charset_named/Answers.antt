-- `charset_named` returns the charset of the first label that fits. The definition has the same labels, grouped by
-- charset.
use Rattle.header_text.proofs.Words.{◌∙◌, []}
use Rattle.header_text.proofs.WordLaws.CharsetLemmas.{labelled-at}
use Rattle.header_text.proofs.charset.charset_named.Goals as goal

pub loop-label-preserved : goal.loop-label-preserved
loop-label-preserved c = c.loop-label.invariant
    ∙ labelled-at _ c.loop-label.label-index _ c.args.name.now _ c.loop-label-test.true c.if-is_named.ensures

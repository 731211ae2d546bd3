-- `Charset::of` reads the part of a label before its first `*`, as the definition does; without `*` this is the whole
-- label.
use Rattle.header_text.proofs.Words.{◌∙◌, ap}
use Rattle.header_text.proofs.WordLaws.CharsetLemmas.{charset_of-named}
use Rattle.header_text.proofs.charset.Charset.of.Goals as goal

pub returns : goal.returns
returns c = c.charset_named.ensures ∙ charset_of-named c.args.label _ c.cut_at.result c.cut_at.ensures _
    (ap (λ p. p.0.now) c.unwrap_or.ensures)

-- `PartReader::line` reads a line by what it delimits: nothing, so that it is inside the entity, or the entity's end.
use Rattle.mime_text.proofs.Words.{◌≡◌, ◌∷◌, sym, subst, arith, PartReader, Nest, Comes}
use Rattle.mime_text.proofs.PassingLemmas.{passes-from, passes-before, delimited, facts-delimited}
use Rattle.mime_text.proofs.parts.part_reader.PartReader.line.Goals as goal

pub returns-in-Nowhere-clause-pairs : goal.returns-in-Nowhere-clause-pairs
returns-in-Nowhere-clause-pairs g c =
    let n : PartReader = record c.args.self.now { nesting = c.delimit.new.self } in
    let same : c.delimit.new.self ≡ c.args.self.now.nesting = c.delimit.ensures.none c.in-Nowhere.is in
    passes-before g.S.TextSink.takes g.S.TextSink.refuses (Comes c.args.self.now) (Comes n)
    (Comes c.inner_line.new.self) (λ k ms. k (c.args.line.now ∷ ms)) c.inner_line.result _ _
    (λ k h. let P : Nest → Type 0 = λ x. Comes (record c.args.self.now { nesting = x }) k in subst P (sym same) h)
    c.inner_line.ensures.pairs

pub returns-in_default : goal.returns-in_default
returns-in_default g c = grind (arith, passes-from, delimited, facts-delimited)

-- `PartReader::inner_line` reads a line of a leaf or of a header, by the state; one that ends a header begins a body.
use Rattle.mime_text.proofs.Words.{◌≡◌, ◌∙◌, ◌++◌, ◌∷◌, ℕ, List, [], refl, arith, HasLines, taken_of, More, Ended, PartReader, Comes, ComesAfterHeader}
use Rattle.mime_text.proofs.PassingLemmas.{passes-from, leaf-passes, more-passed, ended-comes, facts-ended}
use Rattle.mime_text.proofs.parts.part_reader.PartReader.inner_line.Goals as goal

pub returns-in-InLeaf-clause-pairs : goal.returns-in-InLeaf-clause-pairs
returns-in-InLeaf-clause-pairs g c =
    let n : PartReader = record c.args.self.now { leaf = c.line.new.self } in
    leaf-passes g.S.TextSink.takes g.S.TextSink.refuses c.args.self.now n c.args.line.now c.line.result _ _
    c.in-InLeaf.is refl refl c.requires.inner c.line.ensures

pub returns-in-More-clause-pairs : goal.returns-in-More-clause-pairs
returns-in-More-clause-pairs g c =
    let n : PartReader = record c.args.self.now { header = c.push_line.new.self } in
    let taken : (ls : List (List ℕ)) → HasLines c.args.self.now.header ls → More ≡ taken_of (ls ++ c.args.line.now ∷ [])
    = grind arith in
    more-passed g.S.TextSink.takes g.S.TextSink.refuses c.args.self.now n c.args.line.now c.in-InHeader.counted
    c.in-InHeader.default _ c.in-InHeader.is refl refl c.requires.inner c.in_ok-push_line-in-InHeader.ensures.lines
    taken

pub returns-in-Ended-clause-pairs : goal.returns-in-Ended-clause-pairs
returns-in-Ended-clause-pairs g c =
    let n : PartReader = record c.args.self.now { header = c.push_line.new.self } in
    let taken : (ls : List (List ℕ)) → HasLines c.args.self.now.header ls → Ended
    ≡ taken_of (ls ++ c.args.line.now ∷ []) = grind arith in
    passes-from g.S.TextSink.takes g.S.TextSink.refuses (Comes c.args.self.now)
    (ComesAfterHeader n c.in-InHeader.counted c.in-InHeader.default) (Comes c.end_header.new.self)
    (λ k ms. k (c.args.line.now ∷ ms))
    c.end_header.result _ _ (ended-comes g.S.TextSink.takes g.S.TextSink.refuses c.args.self.now n c.args.line.now
    c.in-InHeader.counted c.in-InHeader.default c.in-InHeader.is refl c.requires.inner
    c.in_ok-push_line-in-InHeader.ensures.lines taken)
    c.end_header.ensures.pairs

pub returns-in-Ended-clause-facts : goal.returns-in-Ended-clause-facts
returns-in-Ended-clause-facts g c = grind (arith, facts-ended)

-- `FoldingRoom::fold_word` holds one more word, because the length that it notes is that by which the text grew.
use Rattle.index_job.proofs.Words.{◌∙◌, ℕ, List, [], ◌∷◌, ◌++◌, ap, arith, folding}
use Rattle.index_job.proofs.FoldedWords.{holds-push, grown, sized}
use Rattle.index_job.proofs.folding_room.FoldingRoom.fold_word.Goals as goal

pub returns-clause-folded : goal.returns-clause-folded
returns-clause-folded c = λ ws h.
    let word = folding c.args.word.now in
    let folded = c.in_ok-fold_onto.ensures.exact in
    holds-push _ _ _ _ h folded (◌∙◌ {A = List ℕ} c.in_ok-push.ensures.items
    (ap (λ n. c.args.self.now.lengths.items ++ n ∷ []) (omega (arith, grown))))
    (sized c.args.self.now.folded c.fold_onto.new.into _ folded (c.in_ok-fold_onto.ensures.of_word c.requires))

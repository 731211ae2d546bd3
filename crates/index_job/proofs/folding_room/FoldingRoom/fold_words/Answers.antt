-- `FoldingRoom::fold_words` holds the foldings of all words of a text, word by word.
use Rattle.index_job.proofs.Words.{arith, ◌≡◌, ◌∙◌, [], ◌∷◌, ◌++◌, All, map, sym, ap, subst, append_assoc, All-tail, folding, HasWordLength}
use Rattle.index_job.proofs.folding_room.FoldingRoom.fold_words.Goals as goal

pub loop-word-preserved : goal.loop-word-preserved
loop-word-preserved c =
    let word = c.in-Some.word.now in
    let rest = c.next.new.self in
    let steps = c.in-Some.ensures.steps in
    let i = c.loop-word.invariant in
    let held = i.3 in (
      i.0,
      i.1,
      All-tail HasWordLength word rest (subst (λ l. All HasWordLength l) steps i.2),
      (
        held.0 ++ folding word ∷ [],
        c.in_ok-fold_word.ensures.folded held.0 held.1,
        append_assoc held.0 (folding word ∷ []) (map _ _) ∙ sym (ap (λ l. held.0 ++ map folding l) steps) ∙ held.2,
      ),
      c.fold_word.ensures.waiting ∙ i.4,
    )

pub loop-word-init : goal.loop-word-init
loop-word-init c = grind arith

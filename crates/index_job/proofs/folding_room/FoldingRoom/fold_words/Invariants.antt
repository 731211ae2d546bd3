-- The words that the room holds, then the foldings of those to come, are the foldings of all words.
-- Waiting lines stay.
use Rattle.index_job.proofs.Words.{◌≡◌, ◌++◌, ℕ, List, All, map, folding, HasWordLength, words, HoldsWords}
use Rattle.index_job.proofs.folding_room.FoldingRoom.fold_words.Given as goal

-- the folded words and those that are left are all words
abbrev pub invariant-loop-word : goal.invariant-loop-word
invariant-loop-word l =
    (goal.iterator-loop-word).can_next l.word-iterator ×
    (goal.iterator-loop-word).is_finite l.word-iterator ×
    All HasWordLength l.word-iterator ×
    ((ws : List (List ℕ)) × HoldsWords l.self ws × (ws ++ map folding l.word-iterator ≡ map folding (words l.text))) ×
    (l.self.waiting ≡ l.fn.self.waiting)

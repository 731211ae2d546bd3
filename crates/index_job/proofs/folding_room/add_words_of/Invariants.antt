-- Each turn puts one word into the batch. With its words and those that are left, the draft becomes the wanted one.
use Rattle.index_job.proofs.Words.{◌≡◌, ◌++◌, All, HasWordLength, words, IsInMessage, draft_with_terms, word_terms}
use Rattle.index_job.proofs.folding_room.add_words_of.Given as goal

-- with the words of the batch and those that are left, the draft becomes the wanted one
abbrev pub invariant-loop-word : goal.invariant-loop-word
invariant-loop-word l =
    (goal.iterator-loop-word).can_next l.word-iterator ×
    (goal.iterator-loop-word).is_finite l.word-iterator ×
    All HasWordLength l.word-iterator ×
    IsInMessage l.builder ×
    (draft_with_terms (word_terms l.kind (words l.folded)) l.fn.builder
    ≡ draft_with_terms (word_terms l.kind l.batch ++ word_terms l.kind l.word-iterator) l.builder)

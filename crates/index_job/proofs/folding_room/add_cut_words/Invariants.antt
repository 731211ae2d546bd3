-- Each turn puts one word into the batch. With its words and those that are left, the draft becomes the wanted one.
use Rattle.index_job.proofs.Words.{◌≡◌, ◌≤◌, ◌++◌, drop, length, sum, AllByRecursion, IsInMessage, draft_with_terms, parts_of_lengths, HasTermLength, word_terms}
use Rattle.index_job.proofs.folding_room.add_cut_words.Given as goal

-- with the words of the batch and those that are left, the draft becomes the wanted one
abbrev pub invariant-loop-length : goal.invariant-loop-length
invariant-loop-length l = record {
  phase : IsInMessage l.builder;
  within : sum (drop l.length-index l.lengths) ≤ length l.rest;
  sizes : AllByRecursion HasTermLength (parts_of_lengths (drop l.length-index l.lengths) l.rest);
  whole : draft_with_terms (word_terms l.kind (parts_of_lengths l.lengths l.bytes)) l.fn.builder
      ≡ draft_with_terms (word_terms l.kind l.batch ++ word_terms l.kind
      (parts_of_lengths (drop l.length-index l.lengths) l.rest)) l.builder;
}

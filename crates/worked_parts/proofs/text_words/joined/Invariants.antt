-- The words so far, then those that still come, are all words, and each that still comes has the length of a word.
use Rattle.std.proofs.Common.{◌≡◌, ◌++◌, All, string_bytes}
use Rattle.std.specs.List.{concat}
use Rattle.mail_words.specs.Words.{words, HasWordLength}
use Rattle.worked_parts.proofs.text_words.joined.Given as goal

abbrev pub invariant-loop-word : goal.invariant-loop-word
invariant-loop-word l =
    record {
      whole : concat (words l.fn.text) ≡ string_bytes l.all ++ concat l.word-iterator;
      bounded : All HasWordLength l.word-iterator;
    }

-- What was added, with the characters to come, is the whole folding. What was there before stays at the front.
use Rattle.mail_words.proofs.Imports.{◌≡◌, ◌≤◌, ◌++◌, length, take, string_bytes, folding}
use Rattle.std.specs.String.{string_capacity}
use Rattle.mail_words.proofs.FoldingLemmas.{StillFolds}
use Rattle.mail_words.proofs.folding.fold_onto.Given as goal

abbrev pub invariant-loop-c : goal.invariant-loop-c
invariant-loop-c l =
    record {
      folds : StillFolds (string_bytes l.fn.into ++ folding l.fn.word) (string_bytes l.into) l.c-iterator;
      roomy : string_capacity l.fn.into ≤ string_capacity l.into;
      kept : take l.start (string_bytes l.into) ≡ string_bytes l.fn.into;
      within : l.start ≤ length (string_bytes l.into);
    }

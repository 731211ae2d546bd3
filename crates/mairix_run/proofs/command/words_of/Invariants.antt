-- The words so far and those that come are all words after the name.
use Rattle.std.proofs.Common.{◌≡◌, ◌++◌, drop}
use Rattle.std.specs.Vec.Iter.{into_iter_items, into_iter_len}
use Rattle.mairix_run.proofs.command.words_of.Given as goal

abbrev pub invariant-words : goal.invariant-words
invariant-words l = record {
  all : l.words.items ++ into_iter_items l.args ≡ drop 1 (into_iter_items l.fn.args);
}

abbrev pub decreases-words : goal.decreases-words
decreases-words l = into_iter_len l.args

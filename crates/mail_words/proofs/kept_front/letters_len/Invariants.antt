-- All characters before this place are kept letters.
use Rattle.std.specs.Str.Iter.{char_indices_rest, char_indices_offset}
use Rattle.mail_words.specs.Inside.Folds.{is_kept_letter}
use Rattle.mail_words.proofs.FrontReads.{FrontRead}
use Rattle.mail_words.proofs.kept_front.letters_len.Given as goal

abbrev pub invariant-loop-len : goal.invariant-loop-len
invariant-loop-len l = FrontRead is_kept_letter l.fn.text (char_indices_offset l.len-iterator)
    (char_indices_rest l.len-iterator)

-- All characters so far are in the class, and `len` is the number of their bytes.
use Rattle.std.specs.Str.Iter.{char_indices_rest, char_indices_offset}
use Rattle.mail_words.proofs.FrontReads.{FrontRead}
use Rattle.mail_words.proofs.runs.front_len_of_any.Given as goal

abbrev pub invariant-loop-len : goal.invariant-loop-len
invariant-loop-len g l = FrontRead g.C.CharacterClass.holds l.fn.text (char_indices_offset l.len-iterator)
    (char_indices_rest l.len-iterator)

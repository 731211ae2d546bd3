-- All bytes so far are characters in the class, each by itself.
use Rattle.mail_words.proofs.Imports.{drop}
use Rattle.mail_words.proofs.FrontReads.{FrontRead}
use Rattle.mail_words.proofs.runs.front_len.Given as goal

abbrev pub invariant-loop-len : goal.invariant-loop-len
invariant-loop-len g l = FrontRead g.C.CharacterClass.holds l.fn.text l.len (drop l.len l.fn.text)

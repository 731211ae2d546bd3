-- All characters before this place are in the class. The loop ends because each turn takes two bytes more.
use Rattle.mail_words.proofs.Imports.{◌-◌, length, drop}
use Rattle.mail_words.proofs.FrontReads.{FrontRead}
use Rattle.mail_words.proofs.runs.front_len_by_characters.Given as goal

abbrev pub invariant-loop-c : goal.invariant-loop-c
invariant-loop-c g l = FrontRead g.C.CharacterClass.holds l.fn.text l.len (drop l.len l.fn.text)

abbrev pub decreases-loop-c : goal.decreases-loop-c
decreases-loop-c g l = length l.fn.text - l.len

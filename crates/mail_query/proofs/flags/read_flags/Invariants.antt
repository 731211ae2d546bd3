-- Each turn reads one letter. The members so far, with those of the letters left, are those of the whole text.
use Rattle.mail_query.proofs.Words.{queries_of}
use Rattle.mail_query.proofs.MairixLaws.FlagLemmas.{HasRead}
use Rattle.mail_query.proofs.flags.read_flags.Given as goal

abbrev pub invariant-loop-letter : goal.invariant-loop-letter
invariant-loop-letter l = HasRead l.text (queries_of l.members.items) l.wanted l.letter-index

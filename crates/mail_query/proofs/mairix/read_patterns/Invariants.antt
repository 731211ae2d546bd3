-- Each turn reads one pattern. The queries so far, with those of the patterns left, are those of the whole list.
use Rattle.mail_query.proofs.Words.{map, string_bytes, pattern_lexicon, queries_of, pattern_query}
use Rattle.mail_query.proofs.MairixLaws.EachLemmas.{HasRead, at_number}
use Rattle.mail_query.proofs.mairix.read_patterns.Given as goal

abbrev pub invariant-loop-i : goal.invariant-loop-i
invariant-loop-i l = HasRead at_number (pattern_query (pattern_lexicon l.now)) (map string_bytes l.patterns)
    (queries_of l.members.items) l.i

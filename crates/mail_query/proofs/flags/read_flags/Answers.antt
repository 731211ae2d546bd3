-- `read_flags` reads letters as the definition does, letter by letter: a dash negates only the letter after it.
use Rattle.mail_query.proofs.Words.{arith, nat_tests, length-map}
use Rattle.mail_query.proofs.NodeLemmas.{query_of-Flag}
use Rattle.mail_query.proofs.MairixLaws.FlagLemmas.{reads_letter, dash_read, dash_refused, no_letter, refused, refused_at_end, asked_all}
use Rattle.mail_query.proofs.flags.read_flags.Goals as goal
use Rattle.mail_query.proofs.flags.read_flags.Goals.{then-letter-eq45+else-not-wanted, else-letter-eq45+in-Some+in_ok-add, then-not-wanted-2-via-then-not-wanted-2, then-not-wanted-2-via-else-not-wanted-2+then-is_empty}

pub returns-then-not-wanted : goal.returns-then-not-wanted
returns-then-not-wanted c = grind (arith, dash_refused)

pub returns-in_default : goal.returns-in_default
returns-in_default c = grind (arith, nat_tests, refused, no_letter)

pub loop-letter-preserved : goal.loop-letter-preserved
loop-letter-preserved c = grind (
  arith,
  then-letter-eq45+else-not-wanted,
  dash_read,
  else-letter-eq45+in-Some+in_ok-add,
  nat_tests,
  query_of-Flag,
  reads_letter,
)

pub returns-then-not-wanted-2 : goal.returns-then-not-wanted-2
returns-then-not-wanted-2 c = grind (
  arith,
  then-not-wanted-2-via-then-not-wanted-2,
  refused_at_end,
  then-not-wanted-2-via-else-not-wanted-2+then-is_empty,
  length-map,
  nat_tests,
)

pub returns : goal.returns
returns c = grind (arith, asked_all, length-map, nat_tests)

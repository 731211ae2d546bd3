-- `Numbers::chosen` gives the chosen numbers, by a cursor or as a list of threads.
use Rattle.mail_answer.proofs.Words.{arith, subst, Table, AreThreads}
use Rattle.mail_query.specs.Meaning.{meaning}
use Rattle.mail_answer.proofs.ThreadLaws.ChosenThreads.{threads_below}
use Rattle.mail_answer.proofs.ThreadLaws.NumberLists.{numbers_chosen}
use Rattle.mail_answer.proofs.numbers.Numbers.chosen.Goals as goal
use Rattle.mail_answer.proofs.numbers.Numbers.chosen.Goals.{then-threads+in_ok-satisfying+in_ok-numbers, else-threads+in_ok-cursor}

pub threads_of-requires-clause-rises : goal.threads_of-requires-clause-rises
threads_of-requires-clause-rises = grind (arith, numbers_chosen)

pub threads_of-requires-clause-within : goal.threads_of-requires-clause-within
threads_of-requires-clause-within c =
    rw (c.of-counted.ensures, c.as_slice.ensures.value, c.in_ok-satisfying.ensures.numbers)
    (numbers_chosen c.args.index.now (meaning c.args.query.now)).below

pub returns-clause-numbers : goal.returns-clause-numbers
returns-clause-numbers c = elim c.if-threads.branch [
  | then-threads+in_ok-satisfying+in_ok-numbers w ↦
      let are = subst (λ (t : Table). AreThreads t w.as_slice.result.now w.in_ok-numbers.numbers.items)
      w.of-counted.ensures w.in_ok-numbers.ensures.threads in
      record {
        rises = rw (w.source-is, w.into_iter.ensures.rest) are.rises;
        below =
            rw (w.source-is, w.into_iter.ensures.rest)
            (threads_below c.args.index.now w.as_slice.result.now w.in_ok-numbers.numbers.items are);
      }
  | else-threads+in_ok-cursor w ↦ rw (w.source-is, w.in_ok-cursor.ensures.numbers)
      (numbers_chosen c.args.index.now (meaning c.args.query.now))
]

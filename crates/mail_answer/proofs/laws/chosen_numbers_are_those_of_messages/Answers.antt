-- Chosen numbers are those of messages, because a query is tested for these alone, and threads consist of them.
use Rattle.mail_answer.proofs.OutputLaws.ChosenBelow.{chosen-below, threads-below}
use Rattle.mail_answer.proofs.laws.chosen_numbers_are_those_of_messages.Goals as goal

pub returns-clause-alone : goal.returns-clause-alone
returns-clause-alone c = chosen-below

pub returns-clause-threads : goal.returns-clause-threads
returns-clause-threads c = threads-below

-- There is one list of threads, because rising lists with the same members are the same.
use Rattle.mail_answer.proofs.ThreadLaws.OneThreadList.{one_thread_list}
use Rattle.mail_answer.proofs.laws.one_list_of_threads.Goals as goal

pub returns : goal.returns
returns c = one_thread_list

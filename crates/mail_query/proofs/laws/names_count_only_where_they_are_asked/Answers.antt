-- Names don't change whether a query is true if no part of it searches them: induction over the query.
use Rattle.mail_query.proofs.NameLemmas.{true-without}
use Rattle.mail_query.proofs.laws.names_count_only_where_they_are_asked.Goals as goal

pub returns : goal.returns
returns c = λ q m none. true-without q m none

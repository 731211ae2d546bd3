-- The law holds by `one_list`: both lists are what the calls gave.
use Rattle.call_record.proofs.Agreeing.{one_list}
use Rattle.call_record.proofs.laws.one_list_agrees.Goals as goal

pub returns : goal.returns
returns c = one_list

-- The law holds by `were_given`, call by call.
use Rattle.call_record.proofs.Agreeing.{were_given}
use Rattle.call_record.proofs.laws.agreeing_bytes_were_given.Goals as goal

pub returns : goal.returns
returns c = were_given

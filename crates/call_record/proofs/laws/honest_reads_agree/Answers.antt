-- The law holds by `honest`, because such a read passes the test.
use Rattle.call_record.proofs.Agreeing.{honest}
use Rattle.call_record.proofs.laws.honest_reads_agree.Goals as goal

pub returns : goal.returns
returns c = honest

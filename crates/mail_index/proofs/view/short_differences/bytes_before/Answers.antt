-- `bytes_before` picks a zero and the fifteen bytes from the first on.
use Rattle.mail_index.proofs.ViewLaws.LoadSums.{bytes_before-is}
use Rattle.mail_index.proofs.view.short_differences.bytes_before.Goals as goal

pub returns : goal.returns
returns c = bytes_before-is _ c.fits-lanes.0

-- Reading line by line gives the parts of the outermost split: `whole_given`, by induction over the lines and the
-- depths.
use Rattle.std.proofs.Common.{arith}
use Rattle.mime_text.proofs.StreamLaws.{whole_given}
use Rattle.mime_text.proofs.law.one_line_at_a_time.Goals as goal

pub returns : goal.returns
returns c shape_of gives counted left default lines = grind (arith, whole_given)

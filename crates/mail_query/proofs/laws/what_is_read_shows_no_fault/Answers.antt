-- Tokens of the grammar have no fault, because the reader returns their query and so reports none.
use Rattle.mail_query.proofs.BooleanLaws.BooleanPlaces.{read_faultless}
use Rattle.mail_query.proofs.laws.what_is_read_shows_no_fault.Goals as goal

pub returns : goal.returns
returns c = read_faultless

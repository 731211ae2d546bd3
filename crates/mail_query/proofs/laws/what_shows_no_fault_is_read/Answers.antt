-- Tokens without a fault are read, because the reader then returns a query, and this is one of the grammar.
use Rattle.mail_query.proofs.BooleanLaws.BooleanPlaces.{faultless_read}
use Rattle.mail_query.proofs.laws.what_shows_no_fault_is_read.Goals as goal

pub returns : goal.returns
returns c = faultless_read

-- `IndexView::message` returns the record of the number, because each record before it has 40 bytes.
use Rattle.mail_index.proofs.Words.{slice_get, arith, read_record}
use Rattle.mail_index.proofs.ViewLaws.Opening.{count_records, message_at}
use Rattle.mail_index.proofs.view.index_view.IndexView.message.Goals as goal

pub split_at-requires : goal.split_at-requires
split_at-requires c = grind (arith, count_records)

pub read-requires : goal.read-requires
read-requires c = grind (arith, count_records)

pub returns : goal.returns
returns c = grind (arith, count_records, slice_get, message_at, read_record)

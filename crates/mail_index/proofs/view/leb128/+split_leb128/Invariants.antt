-- `split_leb128` ends, because each call may read one byte less.
use Rattle.mail_index.proofs.view.leb128.+split_leb128.Given as goal

abbrev pub decreases-split_leb128 : goal.decreases-split_leb128
decreases-split_leb128 l = l.most

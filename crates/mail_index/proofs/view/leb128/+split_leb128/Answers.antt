-- `split_leb128` splits off a number in its shortest form, because each byte adds seven bits.
use Rattle.std.proofs.Common.{◌<◌, ◌+◌, ◌*◌, arith}
use Rattle.mail_index.proofs.FileLaws.LebLemmas.{IsShort-small, IsShort-last, IsShort-more}
use Rattle.mail_index.proofs.view.leb128.+split_leb128.Goals as goal

pub returns-then-first-lt128-clause-short : goal.returns-then-first-lt128-clause-short
returns-then-first-lt128-clause-short t c = IsShort-last _ _ c.if-most-eq0.false (omega arith)

pub returns-in-Some-clause-small : goal.returns-in-Some-clause-small
returns-in-Some-clause-small t c =
    let bound : c.from-in-Some.result < 128 = omega arith in
    IsShort-small _ _ c.requires (IsShort-more _ _ _ c.if-most-eq0.false bound c.in-Some.ensures.short)

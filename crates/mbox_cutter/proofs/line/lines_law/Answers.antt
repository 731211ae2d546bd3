-- Bytes have exactly one list of lines, because `lines` is one, and each other list agrees with it line by line.
use Rattle.mbox_cutter.proofs.LinesAreCut.{lines-AreLines}
use Rattle.mbox_cutter.proofs.OnlyLines.{only_lines}
use Rattle.mbox_cutter.proofs.line.lines_law.Goals as goal

pub returns : goal.returns
returns c = record { some = lines-AreLines; only = only_lines }

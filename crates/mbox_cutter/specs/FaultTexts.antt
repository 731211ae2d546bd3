-- The text that reports each fault of a cutter.
use Rattle.std.specs.Prelude.{ℕ, List, codes}
use Rattle.mbox_cutter.specs.declared.event.CutFault.{CutFault}
use Rattle.mbox_cutter.specs.declared.event.CutFault.TheVariants.{Device, NotAnMbox, ArchiveTooLong, Failed}

-- the text of a fault
abbrev pub text_of_cut : CutFault → List ℕ
text_of_cut Device = codes "read failed"
text_of_cut NotAnMbox = codes "not an mbox"
text_of_cut ArchiveTooLong = codes "too long"
text_of_cut Failed = codes "failed before"

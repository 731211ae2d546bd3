-- The text that reports each fault of a run.
use Rattle.std.specs.Prelude.{ℕ, ◌+◌, List, ◌∷◌, ◌++◌, codes}
use Rattle.std.specs.Fmt.{decimal}
use Rattle.mbox_cutter.specs.FaultTexts.{text_of_cut}
use Rattle.mairix_options.specs.FaultTexts.{text_of_usage, text_of_rc}
use Rattle.mail_query.specs.FaultTexts.{text_of_query}
use Rattle.mail_index.specs.FaultTexts.{text_of_index}
use Rattle.run_faults.specs.declared.fault.Fault.{Fault}
use Rattle.run_faults.specs.declared.fault.Fault.TheVariants.{Usage, Rc, Query, Archive, Index, OldIndex, Stale, Device}
use Rattle.run_faults.specs.declared.fault.Fault.TheVariants.{Out, Memory, TooMany}

-- the text of a fault of an archive, such as `archive 2: too long`; the number counts from 0, and is printed plus 1
abbrev pub of_archive : ℕ → List ℕ → List ℕ
of_archive number reason = codes "archive " ++ decimal (number + 1) ++ 58 ∷ 32 ∷ reason

-- the text of a fault
abbrev pub text_of_fault : Fault → List ℕ
text_of_fault (Usage fault) = text_of_usage fault
text_of_fault (Rc fault) = text_of_rc fault
text_of_fault (Query fault) = text_of_query fault
text_of_fault (Archive number fault) = of_archive number (text_of_cut fault)
text_of_fault (Index fault) = codes "index: " ++ text_of_index fault
text_of_fault OldIndex = codes "index: too old, build it again"
text_of_fault (Stale number) = of_archive number (codes "changed since it was indexed")
text_of_fault Device = codes "archive read failed"
text_of_fault Out = codes "output failed"
text_of_fault Memory = codes "out of memory"
text_of_fault TooMany = codes "too many messages or keys"

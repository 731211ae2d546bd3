-- Which device caused a fault of an answer.
use Rattle.std.specs.Prelude.{ℕ, Bool, true, false, Result, Ok, Err}
use Rattle.mail_answer.specs.declared.fault.AnswerFaultKind.{AnswerFaultKind}
use Rattle.mail_answer.specs.declared.fault.AnswerFaultKind.TheVariants.{Stale, Device, OutOfMemory, OutFailed}

-- whether the output failed
abbrev pub is_of_output : AnswerFaultKind → Bool
is_of_output OutFailed = true
is_of_output (Stale _) = false
is_of_output Device = false
is_of_output OutOfMemory = false

-- whether an archive couldn't be read
abbrev pub is_of_archives : AnswerFaultKind → Bool
is_of_archives OutFailed = false
is_of_archives (Stale _) = false
is_of_archives Device = true
is_of_archives OutOfMemory = false

-- whether an archive isn't the one that was indexed
abbrev pub is_stale : AnswerFaultKind → Bool
is_stale OutFailed = false
is_stale (Stale _) = true
is_stale Device = false
is_stale OutOfMemory = false

-- whether the call failed with a fault of these kinds
abbrev pub has_fault : {T : Type 0} → (AnswerFaultKind → Bool) → Result T AnswerFaultKind → Bool
has_fault kinds (Ok _) = false
has_fault kinds (Err kind) = kinds kind

-- what is true of the archive that is reported as stale
abbrev pub IfStale : AnswerFaultKind → (ℕ → Type 0) → Type 0
IfStale OutFailed holds = Unit {0}
IfStale (Stale n) holds = holds n
IfStale Device holds = Unit {0}
IfStale OutOfMemory holds = Unit {0}

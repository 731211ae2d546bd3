-- Which archive doesn't have the length that was indexed.
use Rattle.std.specs.Prelude.{◌≡◌, ℕ, ◌+◌, ◌==◌, min, List, [], ◌∷◌, length, Option, None, Some, Result, Ok, Err}
use Rattle.std.specs.Prelude.{if◌then◌else◌}
use Rattle.std.specs.List.{slice_get}
use Rattle.std.specs.Option.{option_map_or}
use Rattle.mail_index.specs.Tables.{Archive}
use Rattle.mail_answer.specs.declared.fault.AnswerFaultKind.{AnswerFaultKind}
use Rattle.mail_answer.specs.declared.fault.AnswerFaultKind.TheVariants.{Stale, Device, OutOfMemory, OutFailed}

-- the length that was indexed of the archive with this number
abbrev pub length_in_table : List Archive → ℕ → ℕ
length_in_table named n = option_map_or (λ a. a.length) (slice_get named n) 0

-- the first archive with another length than was indexed, counted from n on
abbrev pub first_changed : ℕ → List Archive → List (List ℕ) → Option ℕ
first_changed n [] archives = None
first_changed n (a ∷ named) [] = None
first_changed n (a ∷ named) (bytes ∷ archives) = if length bytes == a.length then first_changed (n + 1) named archives
    else Some n

-- The first archive with another length than was indexed; if the numbers of archives differ, the smaller one.
abbrev pub stale_archive : List Archive → List (List ℕ) → Option ℕ
stale_archive named archives = if length archives == length named then first_changed 0 named archives
    else Some (min (length archives) (length named))

-- What the call found is right: no archive is stale, or this one is. If a device failed, nothing was found.
abbrev pub ReportsStale : {T : Type 0} → Option ℕ → Result T AnswerFaultKind → Type 0
ReportsStale stale (Ok _) = stale ≡ None
ReportsStale stale (Err (Stale n)) = stale ≡ Some n
ReportsStale stale (Err Device) = Unit {0}
ReportsStale stale (Err OutOfMemory) = ⊥
ReportsStale stale (Err OutFailed) = ⊥

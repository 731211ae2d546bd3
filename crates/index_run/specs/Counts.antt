-- How failures of sources are counted while archives are indexed.
use Rattle.std.specs.Prelude.{ℕ, List, Option, slice_index}
use Rattle.contract_words.specs.Devices.{Counted}
use Rattle.run_faults.specs.declared.fault.Fault.{Fault}
use Rattle.run_faults.specs.Faults.{is_failed_source}

-- the count of failures of the source that failed rises by one, and the counts of all other sources stay
abbrev pub CountsSources : Option Fault → List ℕ → List ℕ → Type 0
CountsSources fault old new = (n : ℕ) → Counted (is_failed_source n fault) (slice_index old n) (slice_index new n)

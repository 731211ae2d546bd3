-- What a run prints at its end, on which stream, and its status.
use Rattle.std.specs.Prelude.{◌≡◌, ◌⊎◌, ℕ, List, [], ◌∷◌, ◌++◌, Option, codes}
use Rattle.std.specs.declared.io.ErrorKind.{ErrorKind}
use Rattle.std.specs.declared.io.ErrorKind.TheVariants.{OutOfMemory}
use Rattle.mbox_cutter.specs.declared.device.Out.{Ghosts}
use Rattle.mairix_options.specs.declared.command_line.UsageFault.{UsageFault}
use Rattle.mairix_options.specs.declared.command_line.UsageFault.TheVariants.{Parse, TwoFormats, Help, Version}
use Rattle.run_faults.specs.FaultTexts.{text_of_fault}
use Rattle.run_faults.specs.Faults.{status_of_fault}
use Rattle.run_faults.specs.declared.fault.Fault.{Fault}
use Rattle.run_faults.specs.declared.fault.Fault.TheVariants.{Usage, Out, Memory}
use Rattle.mairix_run.specs.Stops.{Ending}
use Rattle.mairix_run.specs.Stops.Ending.{Done, CannotOpen, Because}
use Rattle.mairix_run.specs.Streams.{TakesOrBreaksOff, BreaksOff, Prints}

-- the line that reports a text
abbrev pub line : List ℕ → List ℕ
line text = codes "mairix: " ++ text ++ 10 ∷ []

-- the line of a fault
abbrev pub fault_line : Fault → List ℕ
fault_line fault = line (text_of_fault fault)

-- the line of a file that can't be opened, read or made
abbrev pub path_line : List ℕ → List ℕ
path_line path = line (codes "cannot open " ++ path)

-- the fault of words that can't be read
abbrev pub fault_of_unread : ErrorKind → Fault
fault_of_unread OutOfMemory = Memory
fault_of_unread _ = Usage Parse

-- A fault is reported in one line, with its status. If there may be no memory for its text, lack of memory may be
-- reported in its place.
abbrev pub ReportsFault : {E : Type 0} → Ghosts E → Type 0 → Fault → ℕ → E → E → Type 0
ReportsFault e CanRunOut fault status old new = (shown : Fault) × ((shown ≡ fault) ⊎ ((shown ≡ Memory) × CanRunOut))
    × (status ≡ status_of_fault shown) × TakesOrBreaksOff e old new (fault_line shown)

-- ---- on standard output and standard error: their states before are `out` and `err`, those after `out'` and `err'`

module _ {O E : Type 0} (o : Ghosts O) (handed_on : O → Option (List ℕ)) (e : Ghosts E) (IsText : List ℕ → Type 0)
    (CanRunOut : Type 0) where
  -- a fault is reported on standard error, and nothing goes to standard output
  abbrev pub ReportsOnErr : Fault → ℕ → O → O → E → E → Type 0
  ReportsOnErr fault status out out' err err' = (out' ≡ out) × ReportsFault e CanRunOut fault status err err'

  -- The parser's text goes to standard error, with status 2. Without memory for it, that is reported.
  abbrev pub PrintsOnErr : ℕ → O → O → E → E → Type 0
  PrintsOnErr status out out' err err' =
      ((out' ≡ out) × ((text : List ℕ) × IsText text × (status ≡ 2) × TakesOrBreaksOff e err err' text))
      ⊎ (CanRunOut × ReportsOnErr Memory status out out' err err')

  -- The parser's text goes to standard output, with status 0 and nothing on standard error. If that fails, a failed
  -- output is reported. Without memory for the text, that is reported.
  abbrev pub PrintsOnOut : ℕ → O → O → E → E → Type 0
  PrintsOnOut status out out' err err' = ((text : List ℕ) × IsText text
      × (((status ≡ 0) × (err' ≡ err) × Prints o handed_on out out' text)
      ⊎ (BreaksOff o out out' text × ReportsFault e CanRunOut Out status err err')))
      ⊎ (CanRunOut × ReportsOnErr Memory status out out' err err')

  -- what is reported of words that ask for no run
  abbrev pub ReportsUsage : UsageFault → ℕ → O → O → E → E → Type 0
  ReportsUsage Parse status out out' err err' = PrintsOnErr status out out' err err'
  ReportsUsage Help status out out' err err' = PrintsOnOut status out out' err err'
  ReportsUsage Version status out out' err err' = PrintsOnOut status out out' err err'
  ReportsUsage TwoFormats status out out' err err' = ReportsOnErr (Usage TwoFormats) status out out' err err'

  -- what is reported of the ending of a run
  abbrev pub ReportsEnding : Ending → ℕ → O → O → E → E → Type 0
  ReportsEnding (Done own) status out out' err err' = (status ≡ own) × (out' ≡ out) × (err' ≡ err)
  ReportsEnding (CannotOpen path) status out out' err err' =
      (status ≡ 4) × (out' ≡ out) × TakesOrBreaksOff e err err' (path_line path)
  ReportsEnding (Because (Usage fault)) status out out' err err' = ReportsUsage fault status out out' err err'
  ReportsEnding (Because fault) status out out' err err' = ReportsOnErr fault status out out' err err'

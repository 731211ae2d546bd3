-- The calls by which a run finds and locks what a killed run left. The newest call is first.
use Rattle.std.specs.Prelude.{◌≡◌, ◌≢◌, ◌⊎◌, ℕ, ◌+◌, true, false, List, ◌∷◌, Ok, Err, length, codes}
use Rattle.system.specs.declared.call_error.CallError.{CallError}
use Rattle.system.specs.declared.found.Found.{Found}
use Rattle.system.specs.SystemCalls.{SystemCall, Looked, LookedAtLink, LookedAtFile, OpenedFile, ReopenedFile}
use Rattle.mairix_files.specs.FileAnswers.{is_one_node, is_leftover_file}
use Rattle.mairix_files.specs.NewFileChains.{LocksFile, LocksNotFile}

-- this process, whose owner is that of the files that it makes
abbrev pub this_process : List ℕ
this_process = codes "/proc/self"

-- What was found under a name is a leftover. It was opened to read it, as the file of this number, and is the same
-- file.
unfoldable pub OpensLeftover : Found → List ℕ → ℕ → List SystemCall → List SystemCall → Type 0
OpensLeftover named name n old new =
    (process : Found) × (opened : Found) × (is_leftover_file named process ≡ true) × (is_one_node named opened ≡ true)
    × (n ≡ length old + 1)
    × (new ≡ LookedAtFile n (Ok opened) ∷ OpenedFile name (Ok tt) ∷ Looked this_process (Ok process) ∷ old)

-- it wasn't: the system refused a call; or it isn't a leftover; or another file had the name when it was opened
unfoldable pub OpensNoLeftover : Found → List ℕ → CallError → List SystemCall → List SystemCall → Type 0
OpensNoLeftover named name error old new =
    (new ≡ Looked this_process (Err error) ∷ old)
    ⊎ (((process : Found) × (is_leftover_file named process ≡ false) × (error ≡ CallError.Other)
    × (new ≡ Looked this_process (Ok process) ∷ old))
    ⊎ (((process : Found) × (is_leftover_file named process ≡ true)
    × (new ≡ OpenedFile name (Err error) ∷ Looked this_process (Ok process) ∷ old))
    ⊎ (((process : Found) × (n : ℕ) × (is_leftover_file named process ≡ true) × (n ≡ length old + 1)
    × (new ≡ LookedAtFile n (Err error) ∷ OpenedFile name (Ok tt) ∷ Looked this_process (Ok process) ∷ old))
    ⊎ ((process : Found) × (opened : Found) × (n : ℕ)
    × (is_leftover_file named process ≡ true) × (is_one_node named opened ≡ false) × (error ≡ CallError.Other)
    × (n ≡ length old + 1)
    × (new ≡ LookedAtFile n (Ok opened) ∷ OpenedFile name (Ok tt) ∷ Looked this_process (Ok process) ∷ old)))))

-- what was found under a name is a leftover; it was opened once more, to write it, as the file of this number, and
-- locked
unfoldable pub LocksFound : Found → List ℕ → ℕ → List SystemCall → List SystemCall → Type 0
LocksFound named name n old new =
    (seen : ℕ) × (opened : List SystemCall) × OpensLeftover named name seen old opened × (n ≡ length opened)
    × LocksFile name n (ReopenedFile seen (Ok tt) ∷ opened) new

-- it wasn't
unfoldable pub LocksNotFound : Found → List ℕ → CallError → List SystemCall → List SystemCall → Type 0
LocksNotFound named name error old new =
    OpensNoLeftover named name error old new
    ⊎ ((seen : ℕ) × (opened : List SystemCall) × OpensLeftover named name seen old opened
    × ((new ≡ ReopenedFile seen (Err error) ∷ opened)
    ⊎ LocksNotFile name (length opened) error (ReopenedFile seen (Ok tt) ∷ opened) new))

-- what has a name is a leftover, and was locked, as the file of this number
unfoldable pub LocksLeftover : List ℕ → ℕ → List SystemCall → List SystemCall → Type 0
LocksLeftover name n old new = (named : Found) × LocksFound named name n (LookedAtLink name (Ok named) ∷ old) new

-- nothing has a name
unfoldable pub FindsNothing : List ℕ → List SystemCall → List SystemCall → Type 0
FindsNothing name old new = new ≡ LookedAtLink name (Err CallError.NotFound) ∷ old

-- the system refused the look at a name, or what has it wasn't locked as a leftover
unfoldable pub LocksNoLeftover : List ℕ → CallError → List SystemCall → List SystemCall → Type 0
LocksNoLeftover name error old new =
    ((error ≢ CallError.NotFound) × (new ≡ LookedAtLink name (Err error) ∷ old))
    ⊎ ((named : Found) × LocksNotFound named name error (LookedAtLink name (Ok named) ∷ old) new)

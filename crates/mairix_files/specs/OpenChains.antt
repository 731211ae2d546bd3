-- The calls by which files are opened to read them. The newest call is first.
use Rattle.std.specs.Prelude.{◌≡◌, ◌⊎◌, ℕ, Bool, true, false, List, ◌∷◌, Option, None, Some, Ok, Err, length, codes}
use Rattle.std.specs.Prelude.{if◌then◌else◌}
use Rattle.system.specs.declared.call_error.CallError.{CallError}
use Rattle.system.specs.declared.found.Found.{Found}
use Rattle.system.specs.FileKinds.{is_file_kind}
use Rattle.system.specs.SystemCalls.{CallAnswer, SystemCall, Looked, LookedAtFile, OpenedFile}
use Rattle.named_files.specs.declared.refusal.Refusal.{Refusal}
use Rattle.mairix_files.specs.FileAnswers.{found_one_file, if_found}
use Rattle.mairix_files.specs.PlaceChains.{refusal_by_error}

-- the plain file that was found; None if it is no plain file, or the system refused the look
abbrev pub plain_file : CallAnswer Found → Option Found
plain_file answer = if_found answer None (λ found. if is_file_kind found.kind then Some found else None)

-- the standard output was looked at: this plain file, or none
unfoldable pub FindsOutput : Option Found → List SystemCall → List SystemCall → Type 0
FindsOutput output old new =
    (answer : CallAnswer Found) × (output ≡ plain_file answer) × (new ≡ Looked (codes "/proc/self/fd/1") answer ∷ old)

-- an open file was compared with the standard output, if that is a plain file; whether they count as one
unfoldable pub ComparesOutput : Option Found → ℕ → Bool → List SystemCall → List SystemCall → Type 0
ComparesOutput None n same old new = (same ≡ false) × (new ≡ old)
ComparesOutput (Some output) n same old new =
    (answer : CallAnswer Found) × (same ≡ found_one_file (Ok output) answer) × (new ≡ LookedAtFile n answer ∷ old)

-- a file was opened to read it, and isn't the standard output
unfoldable pub OpensFile : List ℕ → Option Found → List SystemCall → List SystemCall → Type 0
OpensFile name output old new = ComparesOutput output (length old) false (OpenedFile name (Ok tt) ∷ old) new

-- the system refused to open it, or it is the standard output
unfoldable pub OpensNotFile : List ℕ → Option Found → Refusal → List SystemCall → List SystemCall → Type 0
OpensNotFile name output why old new =
    ((error : CallError) × (why ≡ refusal_by_error error) × (new ≡ OpenedFile name (Err error) ∷ old))
    ⊎ ((why ≡ Refusal.Refused) × ComparesOutput output (length old) true (OpenedFile name (Ok tt) ∷ old) new)

-- what a name leads to was looked at, and is a plain file; and that was opened
unfoldable pub OpensPlain : List ℕ → Option Found → List SystemCall → List SystemCall → Type 0
OpensPlain name output old new =
    (found : Found) × (is_file_kind found.kind ≡ true) × OpensFile name output (Looked name (Ok found) ∷ old) new

-- the system refused the look, or it is no plain file, and wasn't opened; or it couldn't be opened
unfoldable pub OpensNotPlain : List ℕ → Option Found → Refusal → List SystemCall → List SystemCall → Type 0
OpensNotPlain name output why old new =
    ((error : CallError) × (why ≡ refusal_by_error error) × (new ≡ Looked name (Err error) ∷ old))
    ⊎ (((found : Found) × (is_file_kind found.kind ≡ false) × (why ≡ Refusal.Refused)
    × (new ≡ Looked name (Ok found) ∷ old))
    ⊎ ((found : Found) × (is_file_kind found.kind ≡ true)
    × OpensNotFile name output why (Looked name (Ok found) ∷ old) new))

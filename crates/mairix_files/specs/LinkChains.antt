-- The calls by which links are followed. The newest call is first.
use Rattle.std.specs.Prelude.{◌≡◌, ◌≢◌, ◌⊎◌, ◌<◌, ◌≤◌, ℕ, zero, suc, ◌==◌, nat_eq, Bool, true, false, List, [], ◌∷◌}
use Rattle.std.specs.Prelude.{◌++◌, Option, None, Some, Ok, Err}
use Rattle.std.specs.Prelude.{length, codes, if◌then◌else◌}
use Rattle.std.specs.List.{starts_with}
use Rattle.std.specs.Option.{option_and_then, unwrap_or}
use Rattle.std.specs.Path.{path_parent, path_with_file_name}
use Rattle.system.specs.declared.call_error.CallError.{CallError}
use Rattle.system.specs.declared.found.Found.{Found}
use Rattle.system.specs.SystemCalls.{CallAnswer, SystemCall, LookedAtLink, ReadLink}
use Rattle.mairix_files.specs.FileAnswers.{if_found}

-- ---- the end of some links

-- The path to which a path leads by the texts of these links, of which the last is first. A text is a path from the
-- folder of its link.
abbrev pub path_by_links : List ℕ → List (List ℕ) → List ℕ
path_by_links path [] = path
path_by_links path (text ∷ earlier) = path_with_file_name (path_by_links path earlier) text

-- the calls that read these texts
abbrev pub reads_of_links : List ℕ → List (List ℕ) → List SystemCall
reads_of_links path [] = []
reads_of_links path (text ∷ earlier) = ReadLink (path_by_links path earlier) (Ok text) ∷ reads_of_links path earlier

-- A path was read as that of a link, and is now where the link leads; or else the system reports no link there, and it
-- is as before.
unfoldable pub FollowsLink : Bool → List ℕ → List ℕ → List SystemCall → List SystemCall → Type 0
FollowsLink true path end old new =
    (text : List ℕ) × (end ≡ path_with_file_name path text) × (new ≡ ReadLink path (Ok text) ∷ old)
FollowsLink false path end old new =
    (error : CallError) × (error ≢ CallError.OutOfMemory) × (end ≡ path) × (new ≡ ReadLink path (Err error) ∷ old)

-- a path was read as that of a link, and memory ran out
unfoldable pub FollowsNotLink : List ℕ → List SystemCall → List SystemCall → Type 0
FollowsNotLink path old new =
    (new ≡ ReadLink path (Err CallError.OutOfMemory) ∷ old)
    ⊎ ((text : List ℕ) × (new ≡ ReadLink path (Ok text) ∷ old))

-- The links of a name were followed to their end, at most 40 of them, and this is the path there.
unfoldable pub EndsLinks : List ℕ → List ℕ → List SystemCall → List SystemCall → Type 0
EndsLinks name end old new =
    (texts : List (List ℕ)) × (end ≡ path_by_links name texts)
    × (((length texts ≡ 40) × (new ≡ reads_of_links name texts ++ old))
    ⊎ ((error : CallError) × (length texts < 40) × (error ≢ CallError.OutOfMemory)
    × (new ≡ ReadLink end (Err error) ∷ reads_of_links name texts ++ old)))

-- memory ran out before the end of the links of a name
unfoldable pub EndsNotLinks : List ℕ → List SystemCall → List SystemCall → Type 0
EndsNotLinks name old new =
    (texts : List (List ℕ)) × (length texts ≤ 40)
    × ((new ≡ reads_of_links name texts ++ old)
    ⊎ (new ≡ ReadLink (path_by_links name texts) (Err CallError.OutOfMemory) ∷ reads_of_links name texts ++ old))

-- ---- the system's folder of processes

-- the path this many steps above a path; None above its first part
abbrev pub path_above : List ℕ → ℕ → Option (List ℕ)
path_above path zero = Some path
path_above path (suc n) = option_and_then path_parent (path_above path n)

-- looks at a path and at those above it, with these answers, of which the last is first
abbrev pub looks_upward : List ℕ → List (CallAnswer Found) → List SystemCall
looks_upward path [] = []
looks_upward path (answer ∷ earlier) =
    LookedAtLink (unwrap_or (path_above path (length earlier)) []) answer ∷ looks_upward path earlier

-- a look found something on this device
abbrev pub is_on_device : ℕ → CallAnswer Found → Bool
is_on_device device answer = if_found answer false (λ found. found.device == device)

-- no look did
abbrev pub is_off_device : ℕ → List (CallAnswer Found) → Bool
is_off_device device [] = true
is_off_device device (answer ∷ earlier) = if is_on_device device answer then false else is_off_device device earlier

-- the text of the folder of processes
abbrev pub begins_in_processes : List ℕ → Bool
begins_in_processes path = starts_with nat_eq path (codes "/proc/")

-- It was looked whether a path or one above it is on the device of the processes. That ends at the first that is.
unfoldable pub LooksUpward : ℕ → List ℕ → Bool → List SystemCall → List SystemCall → Type 0
LooksUpward device path true old new =
    (answers : List (CallAnswer Found)) × (last : CallAnswer Found) × (is_off_device device answers ≡ true)
    × (is_on_device device last ≡ true) × (new ≡ looks_upward path (last ∷ answers) ++ old)
LooksUpward device path false old new =
    (answers : List (CallAnswer Found)) × (is_off_device device answers ≡ true)
    × (path_above path (length answers) ≡ None) × (new ≡ looks_upward path answers ++ old)

-- It was looked whether a path is in the folder of processes: by its text, or else by the device of this process.
unfoldable pub LooksForProcesses : List ℕ → Bool → List SystemCall → List SystemCall → Type 0
LooksForProcesses path is_in old new =
    ((begins_in_processes path ≡ true) × (is_in ≡ true) × (new ≡ old))
    ⊎ (((error : CallError) × (begins_in_processes path ≡ false) × (is_in ≡ false)
    × (new ≡ LookedAtLink (codes "/proc/self") (Err error) ∷ old))
    ⊎ ((process : Found) × (begins_in_processes path ≡ false)
    × LooksUpward process.device path is_in (LookedAtLink (codes "/proc/self") (Ok process) ∷ old) new))

-- these links of a name were followed, and none leads into the folder of processes
unfoldable pub PassesLinks : List ℕ → List (List ℕ) → List SystemCall → List SystemCall → Type 0
PassesLinks name [] old new = new ≡ old
PassesLinks name (text ∷ earlier) old new =
    (passed : List SystemCall) × PassesLinks name earlier old passed
    × LooksForProcesses (path_by_links name (text ∷ earlier)) false
    (ReadLink (path_by_links name earlier) (Ok text) ∷ passed) new

-- It was looked whether one of the links of a name, at most 40 of them, leads into the folder of processes.
unfoldable pub LeadsToProcesses : List ℕ → Bool → List SystemCall → List SystemCall → Type 0
LeadsToProcesses name true old new =
    (texts : List (List ℕ)) × (text : List ℕ) × (passed : List SystemCall) × (length texts < 40)
    × PassesLinks name texts old passed
    × LooksForProcesses (path_by_links name (text ∷ texts)) true
    (ReadLink (path_by_links name texts) (Ok text) ∷ passed) new
LeadsToProcesses name false old new =
    (texts : List (List ℕ)) × (passed : List SystemCall) × PassesLinks name texts old passed
    × (((length texts ≡ 40) × (new ≡ passed))
    ⊎ ((error : CallError) × (length texts < 40) × (error ≢ CallError.OutOfMemory)
    × (new ≡ ReadLink (path_by_links name texts) (Err error) ∷ passed)))

-- memory ran out before that was known
unfoldable pub LeadsNowhere : List ℕ → List SystemCall → List SystemCall → Type 0
LeadsNowhere name old new =
    (texts : List (List ℕ)) × (passed : List SystemCall) × (length texts ≤ 40) × PassesLinks name texts old passed
    × ((new ≡ passed) ⊎ FollowsNotLink (path_by_links name texts) passed new)

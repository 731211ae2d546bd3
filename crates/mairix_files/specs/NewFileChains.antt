-- The calls by which a new file is made, takes its name or is removed. The newest call is first. An open file is its
-- number: how many calls were made before the one that opened it.
use Rattle.std.specs.Prelude.{◌≡◌, ◌⊎◌, ℕ, ◌==◌, true, false, List, [], ◌∷◌, Ok, Err, length, bit_or}
use Rattle.std.specs.Prelude.{if◌then◌else◌}
use Rattle.std.specs.Option.{unwrap_or}
use Rattle.std.specs.Path.{path_parent, cur_dir}
use Rattle.system.specs.declared.call_error.CallError.{CallError}
use Rattle.system.specs.declared.found.Found.{Found}
use Rattle.system.specs.SystemCalls.{CallAnswer, SystemCall, Looked, LookedAtLink, LookedAtFile, OpenedFile, MadeFile}
use Rattle.system.specs.SystemCalls.{LockedFile, SetMode, SyncedFile, RenamedFile, RemovedName}
use Rattle.mairix_files.specs.FileAnswers.{is_one_node, may_be_shared, mode_in_folder}

-- ---- a name and an open file

-- it was seen that a name leads to an open file, and not by a link
unfoldable pub ShowsFile : List ℕ → ℕ → List SystemCall → List SystemCall → Type 0
ShowsFile name n old new =
    (named : Found) × (opened : Found) × (is_one_node named opened ≡ true)
    × (new ≡ LookedAtFile n (Ok opened) ∷ LookedAtLink name (Ok named) ∷ old)

-- it wasn't: the system refused one of the two looks, or they found two files
unfoldable pub ShowsNotFile : List ℕ → ℕ → CallError → List SystemCall → List SystemCall → Type 0
ShowsNotFile name n error old new =
    (new ≡ LookedAtLink name (Err error) ∷ old)
    ⊎ (((named : Found) × (new ≡ LookedAtFile n (Err error) ∷ LookedAtLink name (Ok named) ∷ old))
    ⊎ ((named : Found) × (opened : Found) × (is_one_node named opened ≡ false) × (error ≡ CallError.Other)
    × (new ≡ LookedAtFile n (Ok opened) ∷ LookedAtLink name (Ok named) ∷ old)))

-- an open file was locked, and then it was seen that the name leads to it
unfoldable pub LocksFile : List ℕ → ℕ → List SystemCall → List SystemCall → Type 0
LocksFile name n old new = ShowsFile name n (LockedFile n (Ok tt) ∷ old) new

-- it couldn't be locked, or the name doesn't lead to it
unfoldable pub LocksNotFile : List ℕ → ℕ → CallError → List SystemCall → List SystemCall → Type 0
LocksNotFile name n error old new =
    (new ≡ LockedFile n (Err error) ∷ old) ⊎ ShowsNotFile name n error (LockedFile n (Ok tt) ∷ old) new

-- an open file was removed by its name, or the name wasn't seen to lead to it, and nothing was removed
unfoldable pub RemovesFile : List ℕ → ℕ → List SystemCall → List SystemCall → Type 0
RemovesFile name n old new =
    ((error : CallError) × ShowsNotFile name n error old new)
    ⊎ ((shown : List SystemCall) × (done : CallAnswer (Unit {0})) × ShowsFile name n old shown
    × (new ≡ RemovedName name done ∷ shown))

-- ---- a new file

-- a file got a mode with the mark of a new file (0o1000), or without it where the system refused the mark
unfoldable pub MarksFile : ℕ → ℕ → List SystemCall → List SystemCall → Type 0
MarksFile n mode old new =
    (new ≡ SetMode n (bit_or 0o1000 mode) (Ok tt) ∷ old)
    ⊎ ((error : CallError) × (new ≡ SetMode n mode (Ok tt) ∷ SetMode n (bit_or 0o1000 mode) (Err error) ∷ old))

-- it got neither
unfoldable pub MarksNotFile : ℕ → ℕ → CallError → List SystemCall → List SystemCall → Type 0
MarksNotFile n mode error old new =
    (marking : CallError) × (new ≡ SetMode n mode (Err error) ∷ SetMode n (bit_or 0o1000 mode) (Err marking) ∷ old)

-- A new file was made under a name, locked and marked. Only its owner may read and write it.
unfoldable pub MakesMarked : List ℕ → List SystemCall → List SystemCall → Type 0
MakesMarked name old new =
    (locked : List SystemCall) × LocksFile name (length old) (MadeFile name 0o1600 (Ok tt) ∷ old) locked
    × MarksFile (length old) 0o600 locked new

-- no file was made; or it wasn't locked, and stays; or it wasn't marked, and was removed
unfoldable pub MakesNotMarked : List ℕ → CallError → List SystemCall → List SystemCall → Type 0
MakesNotMarked name error old new =
    (new ≡ MadeFile name 0o1600 (Err error) ∷ old)
    ⊎ (LocksNotFile name (length old) error (MadeFile name 0o1600 (Ok tt) ∷ old) new
    ⊎ ((locked : List SystemCall) × (refused : List SystemCall)
    × LocksFile name (length old) (MadeFile name 0o1600 (Ok tt) ∷ old) locked
    × MarksNotFile (length old) 0o600 error locked refused × RemovesFile name (length old) refused new))

-- The mode for a file that takes a name was chosen. What has the name and the file were looked at, and the folder if
-- all may read what has the name.
unfoldable pub ChoosesMode : List ℕ → List ℕ → ℕ → ℕ → List SystemCall → List SystemCall → Type 0
ChoosesMode name folder n mode old new =
    (named : CallAnswer Found) × (opened : CallAnswer Found)
    × (((may_be_shared named opened ≡ false) × (mode ≡ 0o600)
    × (new ≡ LookedAtFile n opened ∷ LookedAtLink name named ∷ old))
    ⊎ ((place : CallAnswer Found) × (may_be_shared named opened ≡ true) × (mode ≡ mode_in_folder place opened)
    × (new ≡ Looked folder place ∷ LookedAtFile n opened ∷ LookedAtLink name named ∷ old)))

-- a file got its mode, with the mark if the system allows that, and was brought to the disk
unfoldable pub SyncsMarked : ℕ → ℕ → List SystemCall → List SystemCall → Type 0
SyncsMarked n mode old new =
    (marked : List SystemCall) × MarksFile n mode old marked × (new ≡ SyncedFile n (Ok tt) ∷ marked)

-- it wasn't
unfoldable pub SyncsNotMarked : ℕ → ℕ → CallError → List SystemCall → List SystemCall → Type 0
SyncsNotMarked n mode error old new =
    MarksNotFile n mode error old new
    ⊎ ((marked : List SystemCall) × MarksFile n mode old marked × (new ≡ SyncedFile n (Err error) ∷ marked))

-- ---- its own name

-- a file that was seen under its temporary name got another one
unfoldable pub RenamesFile : List ℕ → List ℕ → ℕ → List SystemCall → List SystemCall → Type 0
RenamesFile temporary name n old new =
    (shown : List SystemCall) × ShowsFile temporary n old shown × (new ≡ RenamedFile temporary name (Ok tt) ∷ shown)

-- it didn't: the temporary name wasn't seen to lead to it, or the system refused the other one
unfoldable pub RenamesNotFile : List ℕ → List ℕ → ℕ → CallError → List SystemCall → List SystemCall → Type 0
RenamesNotFile temporary name n error old new =
    ShowsNotFile temporary n error old new
    ⊎ ((shown : List SystemCall) × ShowsFile temporary n old shown
    × (new ≡ RenamedFile temporary name (Err error) ∷ shown))

-- a file that was seen under its name got a mode without the mark
unfoldable pub TakesMark : List ℕ → ℕ → ℕ → List SystemCall → List SystemCall → Type 0
TakesMark name n mode old new =
    (shown : List SystemCall) × ShowsFile name n old shown × (new ≡ SetMode n mode (Ok tt) ∷ shown)

-- it didn't: the name wasn't seen to lead to it, or the system refused the mode
unfoldable pub TakesNotMark : List ℕ → ℕ → ℕ → CallError → List SystemCall → List SystemCall → Type 0
TakesNotMark name n mode error old new =
    ShowsNotFile name n error old new
    ⊎ ((shown : List SystemCall) × ShowsFile name n old shown × (new ≡ SetMode n mode (Err error) ∷ shown))

-- the folder of a name: its path without the last part, or else the folder in which the process works
unfoldable pub folder_of_name : List ℕ → List ℕ
folder_of_name name =
    if length (unwrap_or (path_parent name) []) == 0 then cur_dir else unwrap_or (path_parent name) []

-- a folder was opened and brought to the disk
unfoldable pub SyncsFolder : List ℕ → List SystemCall → List SystemCall → Type 0
SyncsFolder folder old new = new ≡ SyncedFile (length old) (Ok tt) ∷ OpenedFile folder (Ok tt) ∷ old

-- it wasn't
unfoldable pub SyncsNotFolder : List ℕ → CallError → List SystemCall → List SystemCall → Type 0
SyncsNotFolder folder error old new =
    (new ≡ OpenedFile folder (Err error) ∷ old)
    ⊎ (new ≡ SyncedFile (length old) (Err error) ∷ OpenedFile folder (Ok tt) ∷ old)

-- A file that has its name lost its mark, and then the folder of the name was brought to the disk.
unfoldable pub SettlesName : List ℕ → ℕ → ℕ → List SystemCall → List SystemCall → Type 0
SettlesName name n mode old new =
    (unmarked : List SystemCall) × TakesMark name n mode old unmarked × SyncsFolder (folder_of_name name) unmarked new

-- It has its mark still, but the folder was opened to bring it to the disk; or it lost its mark, and the folder wasn't
-- brought to the disk.
unfoldable pub SettlesNotName : List ℕ → ℕ → ℕ → CallError → List SystemCall → List SystemCall → Type 0
SettlesNotName name n mode error old new =
    ((marked : List SystemCall) × TakesNotMark name n mode error old marked
    × (SyncsFolder (folder_of_name name) marked new
    ⊎ ((later : CallError) × SyncsNotFolder (folder_of_name name) later marked new)))
    ⊎ ((unmarked : List SystemCall) × TakesMark name n mode old unmarked
    × SyncsNotFolder (folder_of_name name) error unmarked new)

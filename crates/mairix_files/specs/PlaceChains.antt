-- The calls by which it is found out where names lead, and what is concluded from their answers. The newest call is
-- first.
use Rattle.std.specs.Prelude.{◌≡◌, ◌≢◌, ◌↔◌, ◌⊎◌, ℕ, Bool, true, false, not, List, ◌∷◌, Option, None, Some, Result, Ok}
use Rattle.std.specs.Prelude.{Err, IsTrue}
use Rattle.std.specs.Prelude.{IsSomeAnd, chars}
use Rattle.std.specs.Path.{path_file_name}
use Rattle.caseless.specs.Caseless.{IsDefaultMatch}
use Rattle.system.specs.declared.call_error.CallError.{CallError}
use Rattle.system.specs.declared.file_kind.FileKind.{FileKind}
use Rattle.system.specs.declared.found.Found.{Found}
use Rattle.system.specs.SystemCalls.{CallAnswer, SystemCall, FoundPath, Looked}
use Rattle.named_files.specs.declared.look.Look.{Look}
use Rattle.named_files.specs.declared.refusal.Refusal.{Refusal}
use Rattle.mairix_files.specs.FileAnswers.{found_one_file}
use Rattle.mairix_files.specs.LinkChains.{EndsLinks, EndsNotLinks, LeadsNowhere, LeadsToProcesses}
use Rattle.mairix_files.specs.NewFileChains.{folder_of_name}

-- ---- two names

-- the links of a name were followed to this path, and what the name leads to was looked at
unfoldable pub FindsPlace : List ℕ → CallAnswer Found → List ℕ → List SystemCall → List SystemCall → Type 0
FindsPlace name file end old new =
    (followed : List SystemCall) × EndsLinks name end old followed × (new ≡ Looked name file ∷ followed)

-- both texts agree but for case
abbrev AgreeButForCase : List ℕ → List ℕ → Type 0
AgreeButForCase a b = IsDefaultMatch (chars a) (chars b)

-- both paths have a last part, and these agree but for case
abbrev pub HaveOneLastPart : List ℕ → List ℕ → Type 0
HaveOneLastPart a b = IsSomeAnd (path_file_name a) (λ x. IsSomeAnd (path_file_name b) (λ y. AgreeButForCase x y))

-- both paths are there, and agree but for case
abbrev pub AreOnePath : Option (List ℕ) → Option (List ℕ) → Type 0
AreOnePath a b = IsSomeAnd a (λ x. IsSomeAnd b (λ y. AgreeButForCase x y))

-- a path without links was looked for; None if the system has none
unfoldable pub FindsRealPath : List ℕ → Option (List ℕ) → List SystemCall → List SystemCall → Type 0
FindsRealPath name (Some path) old new = new ≡ FoundPath name (Ok path) ∷ old
FindsRealPath name None old new =
    (error : CallError) × (error ≢ CallError.OutOfMemory) × (new ≡ FoundPath name (Err error) ∷ old)

-- Two folders were compared: by what is found of them, or else by their paths without links.
unfoldable pub ComparesFolders : List ℕ → List ℕ → Bool → List SystemCall → List SystemCall → Type 0
ComparesFolders one two same old new =
    (a : CallAnswer Found) × (b : CallAnswer Found)
    × (((found_one_file a b ≡ true) × (same ≡ true) × (new ≡ Looked two b ∷ Looked one a ∷ old))
    ⊎ ((p : Option (List ℕ)) × (q : Option (List ℕ)) × (between : List SystemCall) × (found_one_file a b ≡ false)
    × FindsRealPath one p (Looked two b ∷ Looked one a ∷ old) between × FindsRealPath two q between new
    × (IsTrue same ↔ AreOnePath p q)))

-- memory ran out for a path
unfoldable pub ComparesNotFolders : List ℕ → List ℕ → List SystemCall → List SystemCall → Type 0
ComparesNotFolders one two old new =
    (a : CallAnswer Found) × (b : CallAnswer Found) × (found_one_file a b ≡ false)
    × ((new ≡ FoundPath one (Err CallError.OutOfMemory) ∷ Looked two b ∷ Looked one a ∷ old)
    ⊎ ((p : Option (List ℕ)) × (between : List SystemCall)
    × FindsRealPath one p (Looked two b ∷ Looked one a ∷ old) between
    × (new ≡ FoundPath two (Err CallError.OutOfMemory) ∷ between)))

-- A place was compared with that of another name. They are one if both files count as one; or if the last parts of
-- both paths agree but for case, and their folders are one.
unfoldable pub ComparesPlace :
    CallAnswer Found → List ℕ → List ℕ → Bool → List SystemCall → List SystemCall → Type 0
ComparesPlace file end other same old new =
    (file2 : CallAnswer Found) × (end2 : List ℕ) × (found : List SystemCall) × FindsPlace other file2 end2 old found
    × (((found_one_file file file2 ≡ true) × (same ≡ true) × (new ≡ found))
    ⊎ (((found_one_file file file2 ≡ false) × (HaveOneLastPart end end2 → ⊥) × (same ≡ false) × (new ≡ found))
    ⊎ ((found_one_file file file2 ≡ false) × HaveOneLastPart end end2
    × ComparesFolders (folder_of_name end) (folder_of_name end2) same found new)))

-- memory ran out before that was known
unfoldable pub ComparesNotPlace : CallAnswer Found → List ℕ → List ℕ → List SystemCall → List SystemCall → Type 0
ComparesNotPlace file end other old new =
    EndsNotLinks other old new
    ⊎ ((file2 : CallAnswer Found) × (end2 : List ℕ) × (found : List SystemCall) × FindsPlace other file2 end2 old found
    × (found_one_file file file2 ≡ false) × HaveOneLastPart end end2
    × ComparesNotFolders (folder_of_name end) (folder_of_name end2) found new)

-- two names lead to different places; or not
unfoldable pub FindsApart : List ℕ → List ℕ → Bool → List SystemCall → List SystemCall → Type 0
FindsApart name other apart old new =
    (file : CallAnswer Found) × (end : List ℕ) × (found : List SystemCall) × (same : Bool)
    × FindsPlace name file end old found × ComparesPlace file end other same found new × (apart ≡ not same)

-- memory ran out before that was known
unfoldable pub FindsNotApart : List ℕ → List ℕ → List SystemCall → List SystemCall → Type 0
FindsNotApart name other old new =
    EndsNotLinks name old new
    ⊎ ((file : CallAnswer Found) × (end : List ℕ) × (found : List SystemCall)
    × FindsPlace name file end old found × ComparesNotPlace file end other found new)

-- ---- one name

-- the refusal that a call's error is
abbrev pub refusal_by_error : CallError → Refusal
refusal_by_error CallError.OutOfMemory = Refusal.Memory
refusal_by_error _ = Refusal.Refused

-- what a file is by its kind; a plain file has its length
abbrev look_by_kind : FileKind → ℕ → Look
look_by_kind FileKind.File n = Look.File n
look_by_kind FileKind.Folder n = Look.Folder
look_by_kind _ n = Look.Other

-- what was found under a name
abbrev pub look_by_answer : CallAnswer Found → Result Look Refusal
look_by_answer (Ok found) = Ok (look_by_kind found.kind found.length)
look_by_answer (Err CallError.NotFound) = Ok Look.Nothing
look_by_answer (Err CallError.OutOfMemory) = Err Refusal.Memory
look_by_answer (Err _) = Err Refusal.Refused

-- A name was looked at. A link into the folder of processes is neither a file nor a folder.
unfoldable pub LooksAt : List ℕ → Result Look Refusal → List SystemCall → List SystemCall → Type 0
LooksAt name look old new =
    (LeadsToProcesses name true old new × (look ≡ Ok Look.Other))
    ⊎ (((followed : List SystemCall) × (answer : CallAnswer Found) × LeadsToProcesses name false old followed
    × (look ≡ look_by_answer answer) × (new ≡ Looked name answer ∷ followed))
    ⊎ (LeadsNowhere name old new × (look ≡ Err Refusal.Memory)))

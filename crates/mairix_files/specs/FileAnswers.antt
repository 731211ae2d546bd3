-- What is concluded from what the system reports of files.
use Rattle.std.specs.Prelude.{ℕ, ◌==◌, Bool, true, false, not, ◌&&◌, ◌||◌, Result, Ok, Err, if◌then◌else◌, bit_and}
use Rattle.std.specs.Ordering.{int_eq}
use Rattle.system.specs.declared.file_kind.FileKind.{FileKind}
use Rattle.system.specs.declared.found.FileTime.{FileTime}
use Rattle.system.specs.declared.found.Found.{Found}
use Rattle.system.specs.SystemCalls.{CallAnswer}
use Rattle.system.specs.FileKinds.{is_file_kind}

-- what follows from what was found; another value if the system refused the look
abbrev pub if_found : {A : Type 0} → CallAnswer Found → A → (Found → A) → A
if_found (Ok found) other follows = follows found
if_found (Err error) other follows = other

-- ---- one file

-- these are one file: it has one number on one device
abbrev pub is_one_node : Found → Found → Bool
is_one_node a b = (a.device == b.device) && (a.inode == b.inode)

-- ---- what a killed run left

-- a plain file of this process's owner, with the mark of a new file, the sticky bit; whatever its other bits are
abbrev pub is_leftover_file : Found → Found → Bool
is_leftover_file found process =
    is_file_kind found.kind && (found.owner == process.owner) && (bit_and found.mode 0o1000 == 0o1000)

-- ---- the mode of a new file

-- a plain file that all may read, which has the new one's owner, and no other name
abbrev pub is_readable_by_all : Found → Found → Bool
is_readable_by_all old new =
    is_file_kind old.kind && not (bit_and old.mode 0o004 == 0) && (old.owner == new.owner) && (old.links == 1)

-- a folder of the file's owner, into which neither its group nor others may write
abbrev pub is_own_folder : Found → Found → Bool
is_own_folder folder file = (folder.owner == file.owner) && (bit_and folder.mode 0o022 == 0)

-- the owner may have shared what has the name: both looks found files, and all may read the old one
abbrev pub may_be_shared : CallAnswer Found → CallAnswer Found → Bool
may_be_shared old new = if_found old false (λ o. if_found new false (λ n. is_readable_by_all o n))

-- the mode of a file that replaces one that all may read: all may read it too, if only its owner can have chosen that
abbrev pub mode_in_folder : CallAnswer Found → CallAnswer Found → ℕ
mode_in_folder folder new =
    if if_found folder false (λ f. if_found new false (λ n. is_own_folder f n)) then 0o644 else 0o600

-- ---- one file by two names

-- these have the same kind
abbrev is_one_kind : FileKind → FileKind → Bool
is_one_kind FileKind.File FileKind.File = true
is_one_kind FileKind.Folder FileKind.Folder = true
is_one_kind FileKind.Link FileKind.Link = true
is_one_kind FileKind.Other FileKind.Other = true
is_one_kind _ _ = false

-- these are one moment
abbrev is_one_time : FileTime → FileTime → Bool
is_one_time a b = int_eq a.seconds b.seconds && int_eq a.nanoseconds b.nanoseconds

-- These count as one file: they have one kind and one number, and are on one device, or under two devices have the same
-- length and times. The files of another file system have a device of their own in an overlay.
abbrev pub may_be_one_file : Found → Found → Bool
may_be_one_file a b =
    is_one_kind a.kind b.kind && (a.inode == b.inode) && ((a.device == b.device)
    || ((a.length == b.length) && is_one_time a.written b.written && is_one_time a.changed b.changed))

-- both looks found files that count as one
abbrev pub found_one_file : CallAnswer Found → CallAnswer Found → Bool
found_one_file one other = if_found one false (λ a. if_found other false (λ b. may_be_one_file a b))

-- The system's calls on files, with their answers.
use Rattle.std.specs.Prelude.{ℕ, List, Result}
use Rattle.system.specs.declared.call_error.CallError.{CallError}
use Rattle.system.specs.declared.found.Found.{Found}

-- what a call answers: a value, or why the system refused the call
abbrev pub CallAnswer : Type 0 → Type 0
CallAnswer A = Result A CallError

-- A call with its answer. A name is its bytes. An open file is the number of calls before the one that opened it.
pub data SystemCall : Type 0 where
  -- what a name leads to was looked at
  Looked : List ℕ → CallAnswer Found → SystemCall
  -- what has a name was looked at: a link itself, where the name is one
  LookedAtLink : List ℕ → CallAnswer Found → SystemCall
  -- an open file was looked at
  LookedAtFile : ℕ → CallAnswer Found → SystemCall
  -- the text of a link was read
  ReadLink : List ℕ → CallAnswer (List ℕ) → SystemCall
  -- the path, without links, to which a name leads was looked for
  FoundPath : List ℕ → CallAnswer (List ℕ) → SystemCall
  -- the file, or the folder, of a name was to be opened to read it
  OpenedFile : List ℕ → CallAnswer (Unit {0}) → SystemCall
  -- a new file was to be made under a free name, with at most the rights of this mode, to write to it
  MadeFile : List ℕ → ℕ → CallAnswer (Unit {0}) → SystemCall
  -- an open file was to be opened once more, to read and to write it
  ReopenedFile : ℕ → CallAnswer (Unit {0}) → SystemCall
  -- an open file was to be locked without waiting
  LockedFile : ℕ → CallAnswer (Unit {0}) → SystemCall
  -- an open file was to get this mode
  SetMode : ℕ → ℕ → CallAnswer (Unit {0}) → SystemCall
  -- an open file was to be written to; the bytes that it took
  WroteBytes : ℕ → CallAnswer (List ℕ) → SystemCall
  -- an open file, or folder, was to be brought to the disk
  SyncedFile : ℕ → CallAnswer (Unit {0}) → SystemCall
  -- what has the first name was to get the second one
  RenamedFile : List ℕ → List ℕ → CallAnswer (Unit {0}) → SystemCall
  -- a name was to be removed
  RemovedName : List ℕ → CallAnswer (Unit {0}) → SystemCall
  -- an open file was to be read from where the last such read ended; the bytes that it gave, none only at its end
  ReadOn : ℕ → CallAnswer (List ℕ) → SystemCall
  -- an open file was to be read from this offset on; the bytes that it gave, none only at its end or after it
  ReadAt : ℕ → ℕ → CallAnswer (List ℕ) → SystemCall

-- The calls of a record are a list, the newest first.

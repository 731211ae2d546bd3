-- How answers of the kit's files become answers of the trait `System`.
use Rattle.std.specs.Prelude.{◌≡◌, ℕ, ◌==◌, Result, Ok, Err, if◌then◌else◌, bit_and}
use Rattle.std.specs.Fs.{metadata_len, metadata_mode}
use Rattle.std.specs.IoError.{error_kind}
use Rattle.std.specs.declared.fs.Metadata.{Metadata}
use Rattle.std.specs.declared.io.Error.{Error}
use Rattle.std.specs.declared.io.ErrorKind.{ErrorKind}
use Rattle.system.specs.declared.call_error.CallError.{CallError}
use Rattle.system.specs.declared.file_kind.FileKind.{FileKind}
use Rattle.system.specs.declared.found.Found.{Found}
use Rattle.system.specs.SystemCalls.{CallAnswer}

-- the error for a kind of error of std
abbrev pub call_error_of : ErrorKind → CallError
call_error_of ErrorKind.NotFound = CallError.NotFound
call_error_of ErrorKind.OutOfMemory = CallError.OutOfMemory
call_error_of ErrorKind.Interrupted = CallError.Interrupted
call_error_of _ = CallError.Other

-- an answer of std, with the error for its kind
abbrev pub answer_by_kind : {A : Type 0} → Result A Error → CallAnswer A
answer_by_kind (Ok value) = Ok value
answer_by_kind (Err error) = Err (call_error_of (error_kind error))

-- the kind of a file by the bits of its mode (`S_IFMT` of POSIX)
abbrev pub file_kind_in : ℕ → FileKind
file_kind_in mode =
    if bit_and mode 0o170000 == 0o100000 then FileKind.File
    else (if bit_and mode 0o170000 == 0o040000 then FileKind.Folder
    else (if bit_and mode 0o170000 == 0o120000 then FileKind.Link else FileKind.Other))

-- what std's clauses say of a file was found: its length, its mode and its kind
abbrev pub IsFoundIn : Metadata → Found → Type 0
IsFoundIn metadata found =
    (found.length ≡ metadata_len metadata) × (found.mode ≡ metadata_mode metadata)
    × (found.kind ≡ file_kind_in (metadata_mode metadata))

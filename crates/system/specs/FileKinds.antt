-- Kinds of files.
use Rattle.std.specs.Prelude.{Bool, true, false}
use Rattle.system.specs.declared.file_kind.FileKind.{FileKind}

-- a plain file
abbrev pub is_file_kind : FileKind → Bool
is_file_kind FileKind.File = true
is_file_kind FileKind.Folder = false
is_file_kind FileKind.Link = false
is_file_kind FileKind.Other = false

-- a folder
abbrev pub is_folder_kind : FileKind → Bool
is_folder_kind FileKind.File = false
is_folder_kind FileKind.Folder = true
is_folder_kind FileKind.Link = false
is_folder_kind FileKind.Other = false

-- What calls of archives return, if the archives' bytes are known.
use Rattle.std.specs.Prelude.{◌≡◌, ℕ, List, [], Option, IfSome, length, take, drop}
use Rattle.std.specs.List.{slice_index_or}

-- the bytes of the archive with this number; empty if there is none
abbrev pub archive_at : List (List ℕ) → ℕ → List ℕ
archive_at archives n = slice_index_or archives n []

-- the length that a call returns is that of the archive with this number, if its bytes are known
abbrev pub IsLength : ℕ → ℕ → Option (List (List ℕ)) → Type 0
IsLength n bytes held = IfSome held (λ archives. bytes ≡ length (archive_at archives n))

-- These bytes are in the archive from the offset on. None are read only if none are there.
abbrev pub IsReadFromArchive : ℕ → ℕ → List ℕ → Option (List (List ℕ)) → Type 0
IsReadFromArchive n offset bytes held = IfSome held (λ archives.
    (bytes ≡ take (length bytes) (drop offset (archive_at archives n)))
    × (length bytes ≡ 0 → drop offset (archive_at archives n) ≡ []))

-- What names lead to, and what calls say of it.
use Rattle.std.specs.Prelude.{◌≡◌, ℕ, Bool, true, List, [], length, take, drop, Option, None, Some, IfSome}

-- what a name leads to: nothing, a file of these bytes, a folder, or something else, such as a device, a pipe or a
-- socket
pub data Entry : Type 0 where
  Nothing : Entry
  File : List ℕ → Entry
  Folder : Entry
  Other : Entry

-- the bytes of a file; None of anything else
abbrev pub bytes_of : Entry → Option (List ℕ)
bytes_of Nothing = None
bytes_of (File bytes) = Some bytes
bytes_of Folder = None
bytes_of Other = None

-- These bytes are in a file from the offset on, if the file's bytes are known. None are read only if none are there.
abbrev pub IsReadFromFile : ℕ → List ℕ → Option (List ℕ) → Type 0
IsReadFromFile offset bytes known = IfSome known (λ all.
    (bytes ≡ take (length bytes) (drop offset all)) × (length bytes ≡ 0 → drop offset all ≡ []))

-- a file of bytes that have P
abbrev pub IsFileOf : (List ℕ → Type 0) → Entry → Type 0
IsFileOf P entry = (bytes : List ℕ) × P bytes × (entry ≡ File bytes)

-- the name leads to a file of all that a new file has taken, if that is known
abbrev pub Leads : Entry → Option (List ℕ) → Type 0
Leads entry taken = IfSome taken (λ bytes. entry ≡ File bytes)

-- each name that passes leads to what it led to before
abbrev pub SameWhere : (List ℕ → Bool) → (List ℕ → Entry) → (List ℕ → Entry) → Type 0
SameWhere passes old new = (n : List ℕ) → passes n ≡ true → new n ≡ old n

-- What differs between the versions of index files. Everything else is the same in both.
use Rattle.std.specs.Prelude.{◌≡◌, ℕ, ◌⊎◌, nat_eq, if◌then◌else◌, List, length, take, drop, Option, None, Some}
use Rattle.mail_index.specs.declared.version.Version.{Version}
use Rattle.mail_index.specs.declared.version.Version.TheVariants.{One, Two}
use Rattle.mail_index.specs.Places.{digest_size}

-- the number of a version
abbrev pub version_number : Version → ℕ
version_number One = 1
version_number Two = 2

-- the number is that of a version
abbrev pub IsVersion : ℕ → Type 0
IsVersion n = (n ≡ 1) ⊎ (n ≡ 2)

-- the version that is written
abbrev pub newest : ℕ
newest = 2

-- the greatest number of a kind: names came with version 2
abbrev pub last_kind : ℕ → ℕ
last_kind version = if nat_eq version 1 then 8 else 9

-- The digest of an archive is one that a table of the version may have: none in version 1, any bytes of a digest's size
-- in version 2.
abbrev pub IsDigest : ℕ → Option (List ℕ) → Type 0
IsDigest version None = version ≡ 1
IsDigest version (Some digest) = (version ≡ 2) × (length digest ≡ digest_size)

-- how many bytes a digest has in a file of the version
abbrev pub digest_length : ℕ → ℕ
digest_length version = if nat_eq version 1 then 0 else digest_size

-- the digest that the bytes begin with in a file of the version, or None in version 1
abbrev pub read_digest : ℕ → List ℕ → Option (List ℕ)
read_digest version bytes = if nat_eq version 1 then None else Some (take digest_size bytes)

-- the bytes after that digest
abbrev pub after_digest : ℕ → List ℕ → List ℕ
after_digest version bytes = drop (digest_length version) bytes

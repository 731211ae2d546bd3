-- What is read of an archive for its digest.
use Rattle.std.specs.Prelude.{◌≡◌, ℕ, List, [], ◌++◌, length, take, Option, None, Some, Ok, nat_le, if◌then◌else◌}
use Rattle.contract_words.specs.Archives.{IsReadFromArchive}
use Rattle.sha2.specs.Hashers.{Holds256}
use Rattle.sha2.specs.Sha256.{sha256}
use Rattle.sha2.specs.declared.Sha256.{Sha256}
use Rattle.mail_answer.specs.Pieces.{ReadsFront, StopsWithin}
use Rattle.mail_answer.specs.declared.archives.Archives.{Ghosts}

-- the digest of the first `count` bytes, if there are as many
abbrev pub front_digest : ℕ → List ℕ → Option (List ℕ)
front_digest count bytes = if nat_le count (length bytes) then Some (sha256 (take count bytes)) else None

-- This many bytes were read of an archive, and this is their digest; None if the archive ends before.
abbrev pub ReadsDigest : {A : Type 0} → Ghosts A → ℕ → ℕ → A → A → Option (List ℕ) → Type 0
ReadsDigest g archive count old new (Some digest) = (bytes : List ℕ) × ReadsFront g archive bytes old new
    × (length bytes ≡ count) × (digest ≡ sha256 bytes)
ReadsDigest g archive count old new None = StopsWithin g archive count (Ok []) old new

-- This many bytes of an archive, from an offset on, were added to a digest. The number is 0 only if the archive has
-- none there.
pub record AbsorbsPart {A : Type 0} (g : Ghosts A) (archive offset count : ℕ) (held : Option (List (List ℕ)))
    (before after : A) (old new : Sha256) : Type 0 where
  pub bytes : List ℕ
  pub number : length bytes ≡ count
  pub part : (m : List ℕ) → Holds256 old m → Holds256 new (m ++ bytes)
  pub read : IsReadFromArchive archive offset bytes held
  pub told : g.reads before archive offset (Ok bytes) after

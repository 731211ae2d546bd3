-- What writing changes in an output, in the seal of what was written, and in what is gathered to be written.
use Rattle.std.specs.Prelude.{◌≡◌, ⊤, ℕ, List, ◌++◌, Option, Result, Ok, Err}
use Rattle.std.specs.Io.KnownBytes.{Appends}
use Rattle.sha2.specs.Hashers.{Holds256}
use Rattle.contract_words.specs.Devices.{Sends}
use Rattle.mail_index.specs.declared.build.file_out.Signer.{Signer}
use Rattle.mail_index.specs.declared.build.seal.Seal.{Seal}
use Rattle.mail_index.specs.declared.build.seal.Seal.TheVariants as seal
use Rattle.mail_index.specs.declared.digests.Digests.{Digests}
use Rattle.mail_index.specs.declared.digests.Digests.TheVariants.{Computed, LeftOut}

-- the seal is of these bytes, if a digest is computed
abbrev pub Seals : Digests → Seal → List ℕ → Type 0
Seals Computed (seal.Computed hasher) m = Holds256 hasher m
Seals LeftOut seal.LeftOut m = ⊤
Seals _ _ m = ⊥

-- these bytes were added to a seal
abbrev pub Absorbs : Seal → Seal → List ℕ → Type 0
Absorbs old new bytes = (digests : Digests) (m : List ℕ) → Seals digests old m → Seals digests new (m ++ bytes)

-- of the gathered bytes and these ones, a front was written and added to the seal, and the rest is gathered
pub record Signs (old new : Option (List ℕ)) (s t : Signer) (bytes : List ℕ) : Type 0 where
  pub sent : List ℕ
  pub split : s.pending ++ bytes ≡ sent ++ t.pending
  pub out : Appends old new sent
  pub seal : Absorbs s.seal t.seal sent

-- of the gathered bytes and these ones, only a front was written
abbrev pub StopsSigning : Option (List ℕ) → Option (List ℕ) → Signer → List ℕ → Type 0
StopsSigning old new s bytes = Sends old new (s.pending ++ bytes)

-- what a call that writes these bytes does: it signs them, or only a front of them was written because the output
-- failed
abbrev pub WritesSigned : {T E : Type 0} → Result T E → Option (List ℕ) → Option (List ℕ) → Signer → Signer → List ℕ
    → Type 0
WritesSigned (Ok _) old new s t bytes = Signs old new s t bytes
WritesSigned (Err _) old new s t bytes = StopsSigning old new s bytes

-- of the whole, all but the rest was written so far
pub record IsSigning (old new : Option (List ℕ)) (s t : Signer) (whole rest : List ℕ) : Type 0 where
  pub front : List ℕ
  pub split : whole ≡ front ++ rest
  pub signs : Signs old new s t front

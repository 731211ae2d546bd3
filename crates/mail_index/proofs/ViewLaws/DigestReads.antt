-- A digest that is written and read is the same, and so are its bytes if they are read and written.
use Rattle.mail_index.proofs.Words.{◌≡◌, ℕ, ◌+◌, ◌<◌, ◌≤◌, true, false, nat_eq, if◌then◌else◌, List, [], ◌++◌, length, take, drop, Option, None, Some, refl, sym, ap, ◌∙◌, arith, unwrap_or, take-append_seam, drop-append_seam, take-append-drop, length-take, version_number, IsDigest, digest_length, read_digest, after_digest}
use Rattle.mail_index.specs.declared.version.Version.{Version}
use Rattle.mail_index.specs.declared.version.Version.TheVariants.{Two}

pub digest_size : (version : ℕ) (d : List ℕ) → IsDigest version (Some d) → length d ≡ 32
digest_size _ d h = h.1

-- a digest is read back from its bytes, with whatever follows them
pub digest_back : (version : ℕ) (d : Option (List ℕ)) (x : List ℕ) → IsDigest version d
    → (read_digest version (unwrap_or d [] ++ x) ≡ d) × (after_digest version (unwrap_or d [] ++ x) ≡ x)
digest_back _ None x h = rw h (refl, refl)
digest_back version (Some d) x h =
    let size = sym (digest_size _ d h) in
    rw h.0 (
      ap Some (ap (λ (n : ℕ). take n (d ++ x)) size ∙ take-append_seam d x),
      (ap (λ (n : ℕ). drop n (d ++ x)) size ∙ drop-append_seam d x),
    )

-- the bytes of the digest that is read, and those after it, are all bytes
pub digest_kept : (version : ℕ) (y : List ℕ) → unwrap_or (read_digest version y) [] ++ after_digest version y ≡ y
digest_kept version y = elim (nat_eq version 1) as
    (λ b. unwrap_or (if b then None else Some (take 32 y)) [] ++ drop (if b then 0 else 32) y ≡ y) [
      | true ↦ refl
      | false ↦ take-append-drop 32 y
    ]

-- bytes that begin with a digest have room for it
pub digest_room : (version : ℕ) (y : List ℕ) → IsDigest version (read_digest version y)
    → digest_length version ≤ length y
digest_room version y = elim (nat_eq version 1) as
    (λ b. IsDigest version (if b then None else Some (take 32 y)) → (if b then 0 else 32) ≤ length y) [
      | true ↦ λ h. omega arith
      | false ↦ λ h. omega (arith, digest_size version (take 32 y) h, length-take 32 y)
    ]

pub cut_digest : (v : Version) (y : List ℕ) → v ≡ Two → length y < 32
    → IsDigest (version_number v) (read_digest (version_number v) y) → ⊥
cut_digest v y e l = rw e (λ h. absurd (omega (arith, digest_room)))

-- 32 bytes and what follows them
pub whole_digest : (v : Version) (y d x : List ℕ) → v ≡ Two → (d ≡ take 32 y) × (x ≡ drop 32 y)
    × (length x + 32 ≡ length y)
    → IsDigest (version_number v) (read_digest (version_number v) y) × (Some d ≡ read_digest (version_number v) y)
    × (x ≡ after_digest (version_number v) y)
whole_digest v y d x e cut = rw e ((refl, (omega (arith, length-take 32 y, cut.2))), ap Some cut.0, cut.1)

-- two digests of a version have the same number of bytes
pub same_size : (version : ℕ) (d e : Option (List ℕ)) → IsDigest version d → IsDigest version e
    → length (unwrap_or d []) ≡ length (unwrap_or e [])
same_size _ d e h h2 = grind (arith, digest_size)

-- digests with the same bytes are the same
pub digest_is : (version : ℕ) (d e : Option (List ℕ)) → IsDigest version d → IsDigest version e → unwrap_or d []
    ≡ unwrap_or e [] → d ≡ e
digest_is _ d e h h2 h3 = grind arith

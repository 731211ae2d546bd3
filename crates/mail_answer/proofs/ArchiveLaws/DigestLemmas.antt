-- The digest of an archive that is read piece by piece is that of all its bytes, because the pieces are its front.
use Rattle.mail_answer.proofs.Words.{◌≡◌, ℕ, ◌+◌, List, [], ◌∷◌, ◌++◌, append-nil, length, length-append, take, take-add, take_all, Option, Some, IfSome, Ok, ap, ap₂, sym, ◌∙◌, le-leb, subst, arith, concat-append, concat, sha256, WasKnown, archive_at, IsReadFromArchive, front_digest, AbsorbsPart, ReadsDigest, TellPieces, ReadsFront, Ghosts}
use Rattle.sha2.specs.Hashers.{Holds256}
use Rattle.sha2.specs.declared.Sha256.{Sha256}
use Rattle.mail_answer.proofs.ArchiveLaws.KnowledgeLemmas.{some_later}

-- The digest has this many bytes: those of an archive before this offset. They were read since `first`.
pub record AbsorbedTo {A : Type 0} (g : Ghosts A) (archive at : ℕ) (first now : A) (h : Sha256) : Type 0 where
  pub bytes : List ℕ
  pub number : length bytes ≡ at
  pub holds : Holds256 h bytes
  pub read : ReadsFront g archive bytes first now

more_in_front : (held : Option (List (List ℕ))) (archive at count : ℕ) (bytes more : List ℕ) → length more ≡ count
    → IfSome held (λ archives. bytes ≡ take at (archive_at archives archive))
    → IsReadFromArchive archive at more held → IfSome held
    (λ archives. bytes ++ more ≡ take (at + count) (archive_at archives archive))
more_in_front held archive at count bytes more h h2 h3 = grind (arith, take-add)

-- one more piece was read
more_pieces : {A : Type 0} (g : Ghosts A) (n offset : ℕ) (pieces : List (List ℕ)) (piece : List ℕ) (old before new : A)
    → TellPieces g n offset pieces old before
    → g.reads before n (offset + length (concat pieces)) (Ok piece) new
    → TellPieces g n offset (pieces ++ piece ∷ []) old new
more_pieces {A} g n offset [] piece old before new e told = grind arith
more_pieces {A} g n offset (p ∷ pieces) piece old before new so_far told =
    let after : offset + length (p ++ concat pieces) ≡ offset + length p + length (concat pieces) =
    omega (arith, length-append p (concat pieces)) in (
      so_far.0,
      so_far.1,
      more_pieces g n (offset + length p) pieces _ _ _ _ so_far.2
          (grind arith),
    )

-- the bytes that were read before an offset
front_at : (held : Option (List (List ℕ))) (archive at : ℕ) (bytes : List ℕ) → length bytes ≡ at
    → IfSome held (λ archives. bytes ≡ take (length bytes) (archive_at archives archive))
    → IfSome held (λ archives. bytes ≡ take at (archive_at archives archive))
front_at held archive at bytes number known = grind arith

pub more_absorbed : {A : Type 0} (g : Ghosts A) (archive at count : ℕ) (first before now : A) (h k : Sha256)
    → WasKnown (g.held before) (g.held now) → AbsorbedTo g archive at first before h
    → AbsorbsPart g archive at count (g.held now) before now h k → AbsorbedTo g archive (at + count) first now k
more_absorbed {A} g archive at count first before now h k was so_far next =
    let pieces = so_far.read.pieces in
    let more = next.bytes in
    let bytes = so_far.bytes ++ more in
    let number : length bytes ≡ at + count = omega (arith, length-append so_far.bytes more, so_far.number, next.number)
    in
    let known = some_later _
    _ _ was so_far.read.known in
    let front_before = front_at _ _ at so_far.bytes so_far.number known in
    let front = more_in_front _ _ at count so_far.bytes more next.number front_before next.read in
    let place : at ≡ 0 + length (concat pieces) = omega (arith, so_far.number, ap length so_far.read.joined) in
    record {
      bytes = bytes;
      number = number;
      holds = next.part so_far.bytes so_far.holds;
      read = record {
        pieces = pieces ++ more ∷ [];
        joined = concat-append pieces (more ∷ []) ∙ ap₂ (λ xs ys. xs ++ ys) so_far.read.joined (append-nil more);
        told = more_pieces g _ 0 _ _ _ _ _ so_far.read.told
            (subst (λ o. g.reads before archive o (Ok more) now) place next.told);
        known = subst (λ n. IfSome (g.held now) (λ archives. bytes ≡ take n (archive_at archives archive)))
            (sym number) front;
      };
    }

-- the digest has as many bytes as were wanted
pub all_read : {A : Type 0} (g : Ghosts A) (archive at indexed : ℕ) (first now : A) (h : Sha256) (digest : List ℕ)
    → AbsorbedTo g archive at first now h → at ≡ indexed
    → ((m : List ℕ) → Holds256 h m → digest ≡ sha256 m) → ReadsDigest g archive indexed first now (Some digest)
all_read g archive at indexed first now h digest so_far end told = grind arith

-- an archive that is as long as it was indexed is read whole
pub whole_digest : (bytes : List ℕ) (indexed : ℕ) → length bytes ≡ indexed → front_digest indexed bytes
    ≡ Some (sha256 bytes)
whole_digest = grind (arith, le-leb, take_all)

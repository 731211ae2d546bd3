-- Archives that aren't altered hold what was indexed, by their paths and by digests, if no two of these are the same
-- for different bytes.
use Rattle.mairix_tool.proofs.Words.{◌≡◌, ◌+◌, ◌++◌, ℕ, suc, Bool, true, cond, List, [], ◌∷◌, map, length, Option, None, Some, refl, ap, ap₂, arith, Contains, option_or, eqb-true, length-map, Contains-append_left, Contains-append_right, bytes_eq-Decides, Mbox, table, entry_of_archive, unverified_archive, Archive, HaveDistinctDigests, altered_archive, mboxes, first_renamed, renamed_archive}
use Rattle.sha2.specs.Sha256.{sha256}
use Rattle.mail_answer.proofs.ArchiveLaws.VerifiedLemmas.{verified_are, are_verified}

-- ---- the digests of a table

digest-of : (a : Mbox) → (entry_of_archive a).digest ≡ Some (sha256 a.bytes)
digest-of a = refl

own-lengths : (archives : List Mbox) → map (λ (a : Archive). a.length) (map entry_of_archive archives)
    ≡ map length (map (λ (a : Mbox). a.bytes) archives)
own-lengths [] = refl
own-lengths (a ∷ archives) = ap (λ l. length a.bytes ∷ l) (own-lengths archives)

own-digests : (archives : List Mbox) → map (λ (a : Archive). a.digest) (map entry_of_archive archives)
    ≡ map (λ (bytes : List ℕ). Some (sha256 bytes)) (map (λ (a : Mbox). a.bytes) archives)
own-digests [] = refl
own-digests (a ∷ archives) = ap₂ (λ d l. d ∷ l) (digest-of a)
    (own-digests archives)

-- archives that were indexed hold what was indexed
pub own-verified : (archives : List Mbox)
    → unverified_archive (table archives).archives (map (λ (a : Mbox). a.bytes) archives) ≡ None
own-verified = grind (arith, are_verified, own-lengths, own-digests)

-- ---- no path is another

tested : (b : Bool) (next : Option ℕ) (n : ℕ) → cond b next (Some n) ≡ None → (b ≡ true) × (next ≡ None)
tested = grind arith

paths-from : (n : ℕ) (before : List Mbox) (paths : List (List ℕ)) → length paths ≡ length (map entry_of_archive before)
    → first_renamed n (map entry_of_archive before) paths ≡ None
    → map (λ (a : Mbox). a.path) before ≡ paths
paths-from n [] [] many none = refl
paths-from n [] (p ∷ paths) many none = absurd (omega (arith, many))
paths-from n (a ∷ before) [] many none = absurd (omega (arith, many))
paths-from n (a ∷ before) (p ∷ paths) many none =
    let both = tested _ _ n none in
    let fewer : length paths ≡ length (map entry_of_archive before) = omega (arith, many) in
    ap₂ (λ q l. q ∷ l) ((bytes_eq-Decides _ p).0 both.0)
    (paths-from (n + 1) before paths fewer both.1)

same-paths : (before : List Mbox) (paths : List (List ℕ)) → renamed_archive (table before).archives paths ≡ None
    → map (λ (a : Mbox). a.path) before ≡ paths
same-paths = grind (arith, tested, paths-from, eqb-true)

-- ---- no archive has other bytes

first-of : {X : Type 0} (x : X) (xs : List X) → Contains (x ∷ xs) x
first-of x xs = (0, omega arith, refl)

later : {X : Type 0} (x y : X) (xs : List X) → Contains xs y → Contains (x ∷ xs) y
later x y xs h = (suc h.0, omega arith, h.2)

-- by digests, if these are different for all these bytes
module _ (all : List (List ℕ)) (apart : HaveDistinctDigests all) where
  bytes-from : (before : List Mbox) (bytes : List (List ℕ))
      → ((x : List ℕ) → Contains (map (λ (a : Mbox). a.bytes) before) x → Contains all x)
      → ((x : List ℕ) → Contains bytes x → Contains all x)
      → map (λ (a : Archive). a.digest) (map entry_of_archive before) ≡ map (λ (bs : List ℕ). Some (sha256 bs)) bytes
      → map (λ (a : Mbox). a.bytes) before ≡ bytes
  bytes-from [] [] left right same = refl
  bytes-from [] (b ∷ bytes) left right same = absurd cc
  bytes-from (a ∷ before) [] left right same = absurd cc
  bytes-from (a ∷ before) (b ∷ bytes) left right same =
      let first : (entry_of_archive a).digest ≡ Some (sha256 b) = cc in
      let rest : map (λ x. x.digest) (map entry_of_archive before)
      ≡ map (λ bs. Some (sha256 bs)) bytes =
      cc in
      let digest : sha256 a.bytes ≡ sha256 b = cc in
      let others = map (λ x. x.bytes) before in
      ap₂ (λ x l. x ∷ l)
      (apart a.bytes b (left a.bytes (first-of _ _)) (right b (first-of b _)) digest)
      (bytes-from before bytes (λ x h. left x (later _ x _ h)) (λ x h. right x (later b x _ h)) rest)

same-bytes : (before : List Mbox) (bytes : List (List ℕ)) → HaveDistinctDigests (map (λ a. a.bytes) before ++ bytes)
    → unverified_archive (table before).archives bytes ≡ None
    → map (λ (a : Mbox). a.bytes) before ≡ bytes
same-bytes before bytes apart none =
    let held = map (λ a. a.bytes) before in
    bytes-from (held ++ bytes) apart _ _ (λ x. Contains-append_left _ _ x)
    (λ x. Contains-append_right _ _ x) (verified_are _ _ none).digests

-- ---- together

made-again : (before : List Mbox) → before
    ≡ mboxes (map (λ (a : Mbox). a.path) before) (map (λ (a : Mbox). a.bytes) before)
made-again [] = refl
made-again (a ∷ before) = ap (λ l. a ∷ l) (made-again before)

neither-of : (o p : Option ℕ) → option_or o p ≡ None → (o ≡ None) × (p ≡ None)
neither-of = grind arith

-- archives of which none is altered are those that were indexed
pub the-same : (before : List Mbox) (paths bytes : List (List ℕ))
    → HaveDistinctDigests (map (λ a. a.bytes) before ++ bytes)
    → altered_archive before paths bytes ≡ None
    → (length paths ≡ length bytes) × (before ≡ mboxes paths bytes)
the-same = grind (arith, neither-of, same-paths, same-bytes, length-map, made-again)

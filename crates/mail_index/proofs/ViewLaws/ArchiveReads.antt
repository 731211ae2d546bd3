-- An archive that is written and read is the same, and so are its bytes if they are read and written.
use Rattle.mail_index.proofs.Words.{Some, slice_get, ◌≡◌, ◌↔◌, ℕ, zero, suc, ◌+◌, ◌-◌, ◌^◌, ◌<◌, ◌≤◌, List, [], ◌∷◌, ◌++◌, length, take, drop, Option, refl, sym, ap, ◌∙◌, arith, length-append, length-drop, append_assoc, unwrap_or, flat_map, take-append_seam, drop-append_seam, take-append-drop, append-nil, AllByRecursion, from_be_bytes-to_be_bytes_4, u32_at, u64_at, be32, be64, archive_bytes, IsDigest, digest_length, read_digest, after_digest, Archive, IsArchive, IsPath, archive_length, after_path, read_archive, after_archive, read_archives, after_archives, HasArchive, SpellsArchives}
use Rattle.mail_index.proofs.ViewLaws.DigestReads.{digest_back, digest_kept, digest_room}
use Rattle.mail_index.proofs.FileLaws.Fronts.{concat_then}
use Rattle.mail_index.proofs.FileLaws.Bytes.{AreBytes, u32_back, u64_back, length_part}

-- an archive is read back from its bytes, with whatever follows them
pub archive_back : (version : ℕ) (a : Archive) (x : List ℕ) → IsArchive version a
    → (read_archive version (archive_bytes a ++ x) ≡ a) × (after_archive version (archive_bytes a ++ x) ≡ x)
unfolding read_archive after_archive
archive_back version a x h =
    let r = archive_bytes a ++ x in
    let d = unwrap_or a.digest [] in
    let size = from_be_bytes-to_be_bytes_4 (length a.path) (omega arith) in
    let tail = append_assoc a.path (d ++ []) x ∙ ap (λ (y : List ℕ). a.path ++ (y ++ x)) (append-nil d) in
    let path = ap (λ (n : ℕ). take n (drop 12 r)) size ∙ ap (take _) tail ∙ take-append_seam a.path (d ++ x) in
    let after = ap (λ (n : ℕ). drop n (drop 12 r)) size ∙ ap (drop _) tail ∙ drop-append_seam a.path (d ++ x) in
    let back = digest_back _ _ x h.2 in
    let digest = ap (read_digest version) after ∙ back.0 in
    grind (arith, length)

-- bytes begin with an archive if they have room for a path, this is a valid path, and a digest follows it
pub has_archive : (version : ℕ) (r : List ℕ) → AreBytes r → 12 ≤ length r → u32_at r 8 ≤ length (drop 12 r)
    → IsPath (take (u32_at r 8) (drop 12 r)) → u64_at r 0 ≤ 2 ^ 40
    → IsDigest version (read_digest version (after_path r)) → HasArchive version r
unfolding read_archive after_archive
has_archive version r h l n p s t =
    let path = take (u32_at r 8) (drop 12 r) in
    let later = after_digest version (after_path r) in
    let e : archive_bytes (read_archive version r) ++ later ≡ r =
    concat_then (be64 (u64_at r 0) ∷ be32 (length path) ∷ path ∷ (unwrap_or (read_digest version (after_path r)) []) ∷
    []) later ∙ ap (λ (x : List ℕ). be64 (u64_at r 0) ++ (be32 (length path) ++ (path ++ x)))
    (digest_kept version _) ∙ ap (λ (x : List ℕ). be64 (u64_at r 0) ++ (be32 (length path) ++ x))
    (take-append-drop (u32_at r 8) (drop 12 r))
    ∙ ap (λ (k : ℕ). be64 (u64_at r 0) ++ (be32 k ++ drop 12 r)) (length_part _ _ n)
    ∙ ap (λ (x : List ℕ). be64 (u64_at r 0) ++ x) (u32_back r 8 _ h (omega arith) refl)
    ∙ u64_back r 0 8 h (omega arith) refl in
    record { spelled = sym e; valid = (p, s, t) }

length_archive : (a : Archive) (x : List ℕ) → length (archive_bytes a ++ x)
    ≡ 12 + length a.path + length (unwrap_or a.digest []) + length x
length_archive a x = grind (arith, unwrap_or, length-append, archive_bytes)

-- what is true of bytes that begin with an archive
pub record ArchiveFront (version : ℕ) (r : List ℕ) : Type 0 where
  pub long : 12 ≤ length r
  pub path : u32_at r 8 ≤ length (drop 12 r)
  pub valid : IsPath (take (u32_at r 8) (drop 12 r))
  pub size : u64_at r 0 ≤ 2 ^ 40
  pub digest : IsDigest version (read_digest version (after_path r))
  pub room : digest_length version ≤ length (after_path r)

pub archive_front_of : (version : ℕ) (r : List ℕ) → HasArchive version r → ArchiveFront version r
unfolding read_archive after_archive
archive_front_of version r h =
    let a = read_archive version r in
    let n = ap length h.spelled ∙ length_archive a (after_archive version r) in
    let size = ap (λ (x : List ℕ). u32_at x 8) h.spelled ∙ from_be_bytes-to_be_bytes_4 (length a.path) (omega arith) in
    let path : u32_at r 8 ≤ length (drop 12 r) = omega (arith, n, size, length-drop 12 r) in
    grind (arith, digest_room)

-- the first of these archives, and the others
after_spelled : (version n : ℕ) (r : List ℕ) → SpellsArchives version (suc n) r → after_archive version r
    ≡ flat_map archive_bytes (read_archives version n (after_archive version r))
after_spelled version n r h = ap (after_archive version) h.spelled ∙ (archive_back _ _ _ h.each.0).1

pub spells_front : (version n : ℕ) (r : List ℕ) → SpellsArchives version (suc n) r → HasArchive version r
spells_front version n r h = grind (arith, archive_bytes, read_archive, after_spelled)

pub spells_rest : (version n : ℕ) (r : List ℕ) → SpellsArchives version (suc n) r
    → SpellsArchives version n (after_archive version r)
spells_rest version n r h = record { spelled = after_spelled _ n r h; each = h.each.1 }

pub spells_more : (version n : ℕ) (r : List ℕ) → HasArchive version r
    → SpellsArchives version n (after_archive version r) → SpellsArchives version (suc n) r
spells_more version n r h s = grind (arith, archive_bytes, read_archive)

-- archives are read back from their bytes
pub archives_back : (version : ℕ) (archives : List Archive) → AllByRecursion (IsArchive version) archives
    → read_archives version (length archives) (flat_map archive_bytes archives) ≡ archives
archives_back _ [] h = refl
archives_back version (a ∷ rest) h =
    let b = archive_back _ a (flat_map archive_bytes rest) h.0 in
    let tail = ap (read_archives version (length rest)) b.1 ∙ archives_back version rest h.1 in
    cc

-- ---- the reader of one archive, from the results of its calls

pub cut_has_none : (version : ℕ) (r tail : List ℕ) (n : ℕ) → n ≡ u32_at r 8 → tail ≡ drop 12 r → length tail < n
    → HasArchive version r → ⊥
cut_has_none version r _ n e t l h = let f = archive_front_of _ r h in absurd (omega (arith, ap length t))

pub unnamed_has_none : (version : ℕ) (r tail path : List ℕ) (n : ℕ) → n ≡ u32_at r 8 → tail ≡ drop 12 r → path
    ≡ take n tail → (IsPath path → ⊥) → HasArchive version r → ⊥
unnamed_has_none version r tail path n e t p refuses h = grind (arith, archive_front_of, take)

pub undigested_has_none : (version : ℕ) (r tail later : List ℕ) (n : ℕ) → n ≡ u32_at r 8 → tail ≡ drop 12 r → later
    ≡ drop n tail → (IsDigest version (read_digest version later) → ⊥)
    → HasArchive version r → ⊥
undigested_has_none version r tail later n e t b refuses h = grind (arith, archive_front_of, drop)

pub found : (version : ℕ) (r tail path later : List ℕ) (n s : ℕ) (digest : Option (List ℕ)) (rest : List ℕ)
    → AreBytes r → 12 ≤ length r → s ≡ u64_at r 0 → n ≡ u32_at r 8
    → tail ≡ drop 12 r → n ≤ length tail → path ≡ take n tail → later ≡ drop n tail → IsPath path → s ≤ 2 ^ 40
    → IsDigest version (read_digest version later) → digest ≡ read_digest version later → rest
    ≡ after_digest version later
    → HasArchive version r × (record { path = path; length = s; digest = digest } ≡ read_archive version r)
    × (rest ≡ after_archive version r)
unfolding read_archive after_archive
found version r tail path later n s digest _ h l es en et nl ep eb valid most its ed er =
    grind (arith, take, drop, read_digest, has_archive, length, after_digest)

-- ---- the loop over archives

pub spells_step : (version n i : ℕ) (s r later : List ℕ) → i < n
    → (SpellsArchives version n s ↔ SpellsArchives version (n - i) r) → HasArchive version r → later
    ≡ after_archive version r
    → SpellsArchives version n s ↔ SpellsArchives version (n - (i + 1)) later
spells_step version n i s r later l h a b =
    let e : n - i ≡ suc (n - (i + 1)) = omega arith in
    ((λ p. rw b (spells_rest _ _ r (rw (← e) (h.0 p)))), (λ p. h.1 (rw e (spells_more _ _ r a (rw (← b) p)))))

pub spells_stop : (version n i : ℕ) (s r : List ℕ) → i < n
    → (SpellsArchives version n s ↔ SpellsArchives version (n - i) r) → (HasArchive version r → ⊥)
    → SpellsArchives version n s → ⊥
spells_stop version n i s r l h refuses p =
    let e : n - i ≡ suc (n - (i + 1)) = omega arith in
    refuses (spells_front _ (n - (i + 1)) r (rw (← e) (h.0 p)))

-- ---- the walk past the first archives

pub pass_step : (version count n i : ℕ) (s r later : List ℕ) → i < n → n ≤ count → SpellsArchives version (count - i) r
    → after_archives version (n - i) r ≡ after_archives version n s → later ≡ after_archive version r
    → SpellsArchives version (count - (i + 1)) later
    × (after_archives version (n - (i + 1)) later ≡ after_archives version n s)
pass_step version count n i s r _ l b h e g =
    let f : count - i ≡ suc (count - (i + 1)) = omega arith in
    let k : n - i ≡ suc (n - (i + 1)) = omega arith in (
      rw g (spells_rest version (count - (i + 1)) r (rw (← f) h)),
      ap (after_archives version (n - (i + 1))) g ∙ ap (λ (j : ℕ). after_archives version j r) (sym k) ∙ e,
    )

pub after_value : (version : ℕ) (r tail later rest : List ℕ) (n k : ℕ) → n ≡ u32_at r 8 → tail ≡ drop 12 r → later
    ≡ drop n tail → k ≡ digest_length version → rest ≡ drop k later
    → rest ≡ after_archive version r
unfolding after_archive
after_value version r tail later _ n k en et eb ek er = cc

pub after_some : (version count : ℕ) (r later : List ℕ) → 0 < count → SpellsArchives version count r → later
    ≡ after_archive version r → SpellsArchives version (count - 1) later
after_some _ _ r _ h h2 h3 = grind (arith, spells_rest)

-- ---- lengths of archives

pub archives_after : (version n k : ℕ) (r : List ℕ) → after_archives version (n + k) r
    ≡ after_archives version k (after_archives version n r)
archives_after version zero k r = grind (arith, after_archives)
archives_after version (suc n) k r = ap (λ (j : ℕ). after_archives version j r)
    (let e : suc n + k ≡ suc (n + k) = omega arith in e) ∙ archives_after version n k (after_archive version r)

pub length_at : (version count n : ℕ) (r : List ℕ) → n < count → archive_length (read_archives version count r) n
    ≡ u64_at (after_archives version n r) 0
unfolding read_archive
length_at _ zero n r l = absurd (omega arith)
length_at _ (suc count) zero r l = refl
length_at version (suc count) (suc n) r l = length_at version count n (after_archive version r) (omega arith)

pub read_count : (version count : ℕ) (r : List ℕ) → length (read_archives version count r) ≡ count
read_count _ zero r = refl
read_count version (suc n) r = ap suc (read_count version n (after_archive version r))

pub front_of_some : (version count : ℕ) (r : List ℕ) → 0 < count → SpellsArchives version count r
    → ArchiveFront version r
front_of_some _ zero r l h = absurd (omega arith)
front_of_some version (suc n) r l h = archive_front_of _ r (spells_front _ n r h)

pub has_first : (version count : ℕ) (r : List ℕ) → 0 < count → SpellsArchives version count r → HasArchive version r
has_first _ _ r h h2 = grind (arith, spells_front)

pub archive_at : (version count n : ℕ) (r : List ℕ) → n < count → slice_get (read_archives version count r) n
    ≡ Some (read_archive version (after_archives version n r))
archive_at _ zero n r l = absurd (omega arith)
archive_at _ (suc count) zero r l = refl
archive_at version (suc count) (suc n) r l = archive_at version count n (after_archive version r) (omega arith)

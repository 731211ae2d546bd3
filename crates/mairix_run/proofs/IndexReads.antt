-- The first 80 bytes of a file show that it is too short, has another magic or an unknown version, because these are in
-- them.
use Rattle.std.proofs.Common.{◌≡◌, ◌∙◌, ap, sym, subst, refl, ℕ, ◌≤◌, true, false, List, [], ◌++◌, length, take, drop, arith, inl, inr, Option, IsSome, Result, Ok, Err, OnOk, Bool, ◌↔◌}
use Rattle.std.proofs.lemmas.List.{drop-take, length-take, take-append-drop, take-take}
use Rattle.std.proofs.Math.Seq.{drop-append_seam, take-append_seam}
use Rattle.std.proofs.lemmas.Nat.{from_be_bytes-to_be_bytes_4}
use Rattle.std.specs.Int.{from_be_bytes, w32}
use Rattle.mail_index.specs.Faults.{IsFirstFaultOfFile, version_told, IsFileOfTable}
use Rattle.mail_index.specs.Files.{be32, counts, index_file, magic, sections}
use Rattle.mail_index.specs.Tables.{IsWellFormed, Table}
use Rattle.mail_index.specs.Versions.{IsVersion}
use Rattle.mail_index.specs.declared.view.fault.IndexFault.{IndexFault}
use Rattle.mail_index.specs.declared.view.fault.IndexFault.TheVariants.{TooShort, BadMagic, BadVersion, BadDigest, BadLayout}
use Rattle.mail_index.proofs.BuildLaws.Sizes.{length-body, length-index_file}
use Rattle.mail_index.proofs.FileLaws.Fronts.{concat_then}
use Rattle.mail_index.proofs.FileLaws.OneTable.{small_version}
use Rattle.mairix_run.specs.FileFronts.{GivesFront}
use Rattle.mairix_run.specs.declared.named_file.Reading.{Reading}
use Rattle.mairix_run.specs.declared.named_file.Reading.TheVariants.{Index}
use Rattle.mairix_run.specs.IndexReads.{IsIndexRead, IsKnownRead, IsReadAs, IsRefusedEarly, seen_early}
use Rattle.mairix_run.specs.WholeFiles.{GivesRest}
use Rattle.named_files.specs.Entries.{Entry, IsFileOf, bytes_of}
use Rattle.named_files.specs.declared.refusal.Refusal.{Refusal}

-- the bytes are long enough, and have the magic and a known version
record IsMarked (bytes : List ℕ) : Type 0 where
  long : 80 ≤ length bytes
  marked : take 8 bytes ≡ magic
  known : IsVersion (version_told bytes)

-- a later fault comes only without an early one
pub late_only : (bytes : List ℕ) (f : IndexFault) → seen_early f ≡ false → IsFirstFaultOfFile bytes f
    → ¬ IsRefusedEarly bytes
late_only bytes f late h = grind arith

-- ---- the first 80 bytes and the whole file

module _ (all : List ℕ) where
  same_magic : take 8 (take 80 all) ≡ take 8 all
  same_magic = grind (arith, take-take)

  same_version : version_told (take 80 all) ≡ version_told all
  same_version = grind (arith, drop-take, take-take)

  front_of : (f : IndexFault) → seen_early f ≡ true → IsFirstFaultOfFile all f → IsFirstFaultOfFile (take 80 all) f
  front_of TooShort early h = omega (arith, h, length-take 80 all)
  front_of BadMagic early h = (omega (arith, h.0, length-take 80 all), λ m. h.1 (sym same_magic ∙ m))
  front_of BadVersion early h =
      (omega (arith, h.0, length-take 80 all), same_magic ∙ h.1, λ v. h.2 (subst IsVersion same_version v))
  front_of BadDigest early h = absurd cc
  front_of (BadLayout section) early h = absurd cc

  whole_of : (f : IndexFault) → seen_early f ≡ true → IsFirstFaultOfFile (take 80 all) f → IsFirstFaultOfFile all f
  whole_of TooShort early h = omega (arith, h, length-take 80 all)
  whole_of BadMagic early h = (omega (arith, h.0, length-take 80 all), λ m. h.1 (same_magic ∙ m))
  whole_of BadVersion early h = (
    omega (arith, h.0, length-take 80 all),
    sym same_magic ∙ h.1,
    λ v. h.2 (subst IsVersion (sym same_version) v),
  )
  whole_of BadDigest early h = absurd cc
  whole_of (BadLayout section) early h = absurd cc

  pub refused_front : IsRefusedEarly all → IsRefusedEarly (take 80 all)
  refused_front e = (e.0, e.1, front_of e.0 e.1 e.2)

  pub refused_whole : IsRefusedEarly (take 80 all) → IsRefusedEarly all
  refused_whole e = (e.0, e.1, whole_of e.0 e.1 e.2)

-- ---- what is read

-- the first bytes are refused, and no more are read
pub reads_front : (before now : Option (List ℕ)) (old new : List ℕ) → GivesFront 80 before now old new → old ≡ []
    → IsRefusedEarly new → IsKnownRead Index before now new
reads_front before now old new front empty early = grind (arith, refused_whole)

-- they aren't, and all that is left is read
pub reads_all : (before now after : Option (List ℕ)) (old new more : List ℕ) → GivesFront 80 before now old new
    → old ≡ [] → ¬ IsRefusedEarly new → GivesRest now after new more → IsKnownRead Index before after more
reads_all before now after old new more front empty never rest = λ some.
    let r = rest some in
    let f = front (rw r.1 refl) in
    let is : new ≡ take 80 f.0 = f.2 ∙ ap (λ l. l ++ take 80 f.0) empty in
    let left : r.0 ≡ drop 80 f.0 = cc in
    let whole : more ≡ f.0 = r.2 ∙ (λ i. is i ++ left i) ∙ take-append-drop 80 f.0 in
    (f.0, f.1, inr (λ e. never (subst IsRefusedEarly (sym is) (refused_front f.0 e)), whole))

pub ends_read : (before now after : Option (List ℕ)) (old new more : List ℕ) (result : Result (Unit {0}) Refusal)
    → GivesFront 80 before now old new → old ≡ [] → ¬ IsRefusedEarly new → OnOk result (GivesRest now after new more)
    → OnOk result (IsKnownRead Index before after more)
ends_read before now after old new more (Ok done) front empty never rest =
    reads_all before now after old new more front empty never rest
ends_read before now after old new more (Err why) front empty never rest = tt

-- the file of a name was read
pub reads_file : (reading : Reading) (entry : Entry) (before after : Option (List ℕ)) (bytes : List ℕ)
    → before ≡ bytes_of entry → IsKnownRead reading before after bytes → IsSome after
    → IsFileOf (λ all. IsReadAs reading all bytes) entry
reads_file reading entry before after bytes is read some = grind arith

-- ---- the file of a table

module _ (t : Table) where
  begins_so : (more : List ℕ) × (index_file t ≡ magic ++ (be32 t.version ++ more))
  unfolding index_file
  begins_so = (_, concat_then (sections t) _ ∙ concat_then (counts t) _)

  same_number : IsWellFormed t → version_told (index_file t) ≡ t.version
  same_number w =
      let more = begins_so.0 in
      let after : drop 8 (index_file t) ≡ be32 t.version ++ more =
      ap (drop 8) begins_so.1 ∙ drop-append_seam magic (be32 t.version ++ more) in
      let four : take 4 (drop 8 (index_file t)) ≡ be32 t.version =
      ap (take 4) after ∙ take-append_seam (be32 t.version) more in
      ap (from_be_bytes w32) four ∙ from_be_bytes-to_be_bytes_4 t.version (small_version t.version w.version)

  file_marked : IsWellFormed t → IsMarked (index_file t)
  file_marked w = grind (arith, length-index_file, length-body, begins_so, same_number)

-- it has no early fault
pub table_not_refused : (bytes : List ℕ) (t : Table) → IsFileOfTable bytes t → ¬ IsRefusedEarly bytes
table_not_refused bytes t file = grind (arith, file_marked)

-- ---- what was read serves for the whole file

module _ (all bytes : List ℕ) where
  pub same_fault : (f : IndexFault) → IsIndexRead all bytes → IsFirstFaultOfFile bytes f ↔ IsFirstFaultOfFile all f
  same_fault f (inl (e, is)) = rw is (to (seen_early f) refl, from (seen_early f) refl)
    where
      to : (early : Bool) → seen_early f ≡ early → IsFirstFaultOfFile (take 80 all) f → IsFirstFaultOfFile all f
      to true early h = whole_of all f early h
      to false late h = absurd (late_only (take 80 all) f late h (refused_front all e))

      from : (early : Bool) → seen_early f ≡ early → IsFirstFaultOfFile all f → IsFirstFaultOfFile (take 80 all) f
      from true early h = front_of all f early h
      from false late h = absurd (late_only all f late h e)
  same_fault f (inr (never, is)) = rw is (λ h. h, λ h. h)

  pub same_table : (t : Table) → IsIndexRead all bytes → IsFileOfTable bytes t ↔ IsFileOfTable all t
  same_table t (inl (e, is)) = (
    λ file. absurd (table_not_refused bytes t file (subst IsRefusedEarly (sym is) (refused_front all e))),
    λ file. absurd (table_not_refused all t file e),
  )
  same_table t (inr (never, is)) = rw is (λ h. h, λ h. h)

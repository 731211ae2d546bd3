-- What is held of the archives is the bytes of all files, so what the open file returned is of the archive with its
-- number.
use Rattle.std.proofs.Common.{◌≡◌, ◌∙◌, ◌&&◌, ℕ, zero, suc, Bool, true, false, List, [], ◌∷◌, length, take, All, Option, None, Some, IfSome, IsSome, is_some, Result, Ok, Err, IfOk, OnOk, slice_get, refl, sym, subst, ap, arith}
use Rattle.std.specs.List.{AllByRecursion}
use Rattle.std.specs.Option.{ForSome, option_map}
use Rattle.std.proofs.lemmas.List.Elements.{recursion_from_All}
use Rattle.contract_words.specs.Archives.{IsLength, IsReadFromArchive, archive_at}
use Rattle.named_files.specs.Entries.{IsReadFromFile}
use Rattle.named_archives.specs.Names.{all_known, held_while, IsFileAt, IsInState}
use Rattle.named_archives.specs.Progress.{has_agreed}
use Rattle.named_archives.proofs.Lists.{and-true}
use Rattle.named_archives.proofs.Pieces.{if-some}

-- ---- values of which something is known

some-of : {A : Type 0} (o : Option A) → is_some o ≡ true → (x : A) × (o ≡ Some x)
some-of o e = grind arith

if-some-at : {A : Type 0} (o : Option A) (P : A → Type 0) (x : A) → IfSome o P → o ≡ Some x → P x
if-some-at o P x h e = grind arith

-- ---- all of them

-- the first one, and all others
first-known : {A : Type 0} (o : Option (List A)) (x : A) (all : List A) → option_map (λ xs. x ∷ xs) o ≡ Some all
    → (rest : List A) × (o ≡ Some rest) × (all ≡ x ∷ rest)
first-known o x all e = grind arith

all_known-length : {A : Type 0} (files : List (Option A)) (all : List A) → all_known files ≡ Some all
    → length all ≡ length files
all_known-length [] all e = let none : [] ≡ all = grind arith in ap length (sym none)
all_known-length (None ∷ files) all e = absurd cc
all_known-length (Some x ∷ files) all e =
    let parts = first-known (all_known files) x all e in
    ap length parts.2 ∙ ap suc (all_known-length files parts.0 parts.1)

all_known-at : (files : List (Option (List ℕ))) (all : List (List ℕ)) (n : ℕ) (bytes : List ℕ)
    → all_known files ≡ Some all → slice_get files n ≡ Some (Some bytes) → archive_at all n ≡ bytes
all_known-at [] all n bytes e is = absurd cc
all_known-at (None ∷ files) all n bytes e is = absurd cc
all_known-at (Some x ∷ files) all zero bytes e is =
    let same : x ≡ bytes = grind arith in
    ap (λ l. archive_at l 0) (first-known (all_known files) x all e).2 ∙ same
all_known-at (Some x ∷ files) all (suc n) bytes e is =
    let parts = first-known (all_known files) x all e in
    ap (λ l. archive_at l (suc n)) parts.2 ∙ all_known-at files parts.0 n bytes parts.1 is

some-map : {A B : Type 0} (f : A → B) (o : Option A) → IsSome o → IsSome (option_map f o)
some-map f o some = grind arith

known-all : {A : Type 0} (files : List (Option A)) → AllByRecursion IsSome files → IsSome (all_known files)
known-all [] each = refl
known-all (None ∷ files) each = absurd (let none : false ≡ true = each.0 in cc)
known-all (Some x ∷ files) each = some-map (λ xs. x ∷ xs) (all_known files) (known-all files each.1)

-- ---- what is held

held-parts : (agrees : Bool) (files : List (Option (List ℕ))) (all : List (List ℕ)) → held_while agrees files ≡ Some all
    → (agrees ≡ true) × (all_known files ≡ Some all)
held-parts agrees files all e = grind arith

-- there are as many archives as files
pub held-length : (agrees : Bool) (files : List (Option (List ℕ))) (n : ℕ) → length files ≡ n
    → IfSome (held_while agrees files) (λ all. length all ≡ n)
held-length agrees files n long = grind (arith, if-some, all_known-length, held-parts)

-- if all was as supposed, all files are held
pub held-all : (agrees : Bool) (files : List (Option (List ℕ))) → agrees ≡ true → All IsSome files
    → IsSome (held_while agrees files)
held-all agrees files e each = grind (arith, known-all, recursion_from_All)

-- ---- the file that is open

module _ {A S : Type 0} (agreed : Bool) (rest bytes : A → Option (List ℕ)) (found : A → Option S) (state : A → S)
    (files : List (Option (List ℕ))) (states : List S) (n : ℕ) where
  -- its bytes are the archive's
  is-archive : (file : A) → IsFileAt files states n (bytes file) (state file) → (all : List (List ℕ))
      → held_while (agreed && has_agreed rest bytes (Some file)) files ≡ Some all
      → bytes file ≡ Some (archive_at all n)
  is-archive file at all e = grind (arith, held-parts, and-true, some-of, all_known-at)

  -- a length that it returned is the archive's
  pub length-is : {E : Type 0} (told : Result ℕ E) (current : Option A)
      → ForSome current (λ file. IsFileAt files states n (bytes file) (state file))
      → OnOk told (IsInState found states n current)
      → IfOk told (λ k. IfSome current (λ file. IfSome (bytes file) (λ all. k ≡ length all)))
      → IfOk told (λ k. IsLength n k (held_while (agreed && has_agreed rest bytes current) files))
  length-is told current at in_state is = grind (arith, if-some, if-some-at, is-archive)

  -- bytes that it returned are the archive's
  pub read-is : {E : Type 0} (told : Result ℕ E) (offset : ℕ) (into : List ℕ) (current : Option A)
      → ForSome current (λ file. IsFileAt files states n (bytes file) (state file))
      → OnOk told (IsInState found states n current)
      → IfOk told (λ k. IfSome current (λ file. IsReadFromFile offset (take k into) (bytes file)))
      → IfOk told (λ k. IsReadFromArchive n offset (take k into)
      (held_while (agreed && has_agreed rest bytes current) files))
  read-is told offset into current at in_state is = grind (arith, if-some, if-some-at, is-archive)

-- what holds of a result at a number holds at the same number
pub at-number : {T E : Type 0} (result : Result T E) (m n : ℕ) (P : ℕ → T → Type 0) → OnOk result (m ≡ n)
    → IfOk result (P m) → IfOk result (P n)
at-number (Ok x) m n P is h = subst (λ k. P k x) is h
at-number (Err e) m n P is h = cc

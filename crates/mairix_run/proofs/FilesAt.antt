-- The files of some names, all of them or the first that is missing.
use Rattle.std.proofs.Common.{◌≡◌, ◌∙◌, ℕ, zero, suc, Bool, true, List, [], ◌∷◌, map, Option, None, Some, Result, Ok, Err, is_some, refl, sym, ap, arith, length, slice_get, slice_index_or, take, ◌&&◌, ◌<◌, ◌+◌, ◌⊎◌}
use Rattle.std.specs.List.{list_all}
use Rattle.std.specs.Option.{option_map_or}
use Rattle.contract_words.specs.Answers.{◌>>=◌}
use Rattle.named_archives.specs.Names.{files_of}
use Rattle.named_files.specs.Entries.{Entry, bytes_of}
use Rattle.mairix_run.specs.Stops.{Ending}
use Rattle.mairix_run.specs.Stops.Ending.{CannotOpen}
use Rattle.mairix_run.specs.Tasks.{files_at}

-- one file, by what is known of it
abbrev file-by : Option (List ℕ) → List ℕ → Result (List ℕ) Ending
file-by known name = option_map_or Ok known (Err (CannotOpen name))

-- files by what is known of each
abbrev files-by : List (Option (List ℕ)) → List (List ℕ) → Result (List (List ℕ)) Ending
files-by [] names = Ok []
files-by (known ∷ rest) [] = Ok []
files-by (known ∷ rest) (name ∷ names) =
    file-by known name >>= λ bytes. files-by rest names >>= λ more. Ok (bytes ∷ more)

same-by : {N : Type 0} (text : N → List ℕ) (holds : List ℕ → Entry) (names : List N)
    → files_at holds (map text names) ≡ files-by (files_of text holds names) (map text names)
same-by text holds [] = refl
same-by text holds (name ∷ names) = ap (λ r. file-by (bytes_of (holds (text name))) (text name)
    >>= λ bytes. r >>= λ more. Ok (bytes ∷ more)) (same-by text holds names)

-- one that is known, and then the rest
known-with : (here : List ℕ) (known : List (Option (List ℕ))) (names bytes : List (List ℕ))
    (r : Result (List (List ℕ)) Ending) → files-by known names ≡ r
    → (files-by known names >>= λ more. Ok (here ∷ more)) ≡ Ok bytes
    → ((more : List (List ℕ)) → files-by known names ≡ Ok more → known ≡ map Some more)
    → (Some here ∷ known) ≡ map Some bytes
known-with here known names bytes r same is rest = grind arith

-- if all are found, each is known
known-by : (known : List (Option (List ℕ))) (names bytes : List (List ℕ)) → length names ≡ length known
    → files-by known names ≡ Ok bytes → known ≡ map Some bytes
known-by [] names bytes long is = cc
known-by (k ∷ known) [] bytes long is = absurd cc
known-by (None ∷ known) (name ∷ names) bytes long is = absurd cc
known-by (Some here ∷ known) (name ∷ names) bytes long is =
    known-with here known names bytes (files-by known names) refl is
    (λ more same. known-by known names more (omega (arith, long)) same)

-- if each is known, all are found
found-by : (known : List (Option (List ℕ))) (names : List (List ℕ)) → length names ≡ length known
    → list_all (λ file. is_some file) known ≡ true → (bytes : List (List ℕ)) × (files-by known names ≡ Ok bytes)
found-by [] names long all = ([], refl)
found-by (k ∷ known) [] long all = absurd cc
found-by (None ∷ known) (name ∷ names) long all = absurd cc
found-by (Some here ∷ known) (name ∷ names) long all =
    let rest = found-by known names (omega (arith, long)) all in
    (here ∷ rest.0, ap (λ r. r >>= λ more. Ok (here ∷ more)) rest.1)

-- the first that is missing can't be opened
missing-by : (known : List (Option (List ℕ))) (names : List (List ℕ)) (n : ℕ) (name : List ℕ)
    → list_all (λ file. is_some file) (take n known) ≡ true → slice_get known n ≡ Some None
    → slice_get names n ≡ Some name → files-by known names ≡ Err (CannotOpen name)
missing-by [] names n name before none named = absurd cc
missing-by (k ∷ known) [] n name before none named = absurd cc
missing-by (None ∷ known) (m ∷ names) zero name before none named =
    let same : m ≡ name = cc in ap (λ x. Err (CannotOpen x)) same
missing-by (Some here ∷ known) (m ∷ names) zero name before none named = absurd cc
missing-by (None ∷ known) (m ∷ names) (suc n) name before none named = absurd cc
missing-by (Some here ∷ known) (m ∷ names) (suc n) name before none named =
    ap (λ r. r >>= λ more. Ok (here ∷ more)) (missing-by known names n name before none named)

-- ---- of the files of some names

long-by : {N : Type 0} (text : N → List ℕ) (holds : List ℕ → Entry) (names : List N)
    → length (map text names) ≡ length (files_of text holds names)
long-by text holds [] = refl
long-by text holds (name ∷ names) = ap suc (long-by text holds names)

pub files-known : {N : Type 0} (text : N → List ℕ) (holds : List ℕ → Entry) (names : List N) (bytes : List (List ℕ))
    → files_at holds (map text names) ≡ Ok bytes → files_of text holds names ≡ map Some bytes
files-known text holds names bytes is =
    known-by (files_of text holds names) (map text names) bytes (long-by text holds names)
    (sym (same-by text holds names) ∙
    is)

pub files-found : {N : Type 0} (text : N → List ℕ) (holds : List ℕ → Entry) (names : List N)
    → list_all (λ file. is_some file) (files_of text holds names) ≡ true
    → (bytes : List (List ℕ)) × (files_at holds (map text names) ≡ Ok bytes)
files-found text holds names all =
    let found = found-by (files_of text holds names) (map text names) (long-by text holds names) all in
    (found.0, same-by text holds names ∙ found.1)

pub file-missing : {N : Type 0} (text : N → List ℕ) (holds : List ℕ → Entry) (names : List N) (n : ℕ) (name : List ℕ)
    → list_all (λ file. is_some file) (take n (files_of text holds names)) ≡ true
    → slice_get (files_of text holds names) n ≡ Some None → slice_get (map text names) n ≡ Some name
    → files_at holds (map text names) ≡ Err (CannotOpen name)
file-missing text holds names n name before none named = grind (arith, same-by, missing-by)

-- ---- by the first states

take-files : {N : Type 0} (text : N → List ℕ) (holds : List ℕ → Entry) (names : List N) (n : ℕ)
    → files_of text holds (take n names) ≡ take n (files_of text holds names)
take-files text holds [] zero = refl
take-files text holds [] (suc n) = refl
take-files text holds (name ∷ names) zero = refl
take-files text holds (name ∷ names) (suc n) =
    ap (λ k. bytes_of (holds (text name)) ∷ k) (take-files text holds names n)

fewer : (known : List (Option (List ℕ))) (n : ℕ) → list_all (λ file. is_some file) (take (suc n) known) ≡ true
    → list_all (λ file. is_some file) (take n known) ≡ true
fewer [] zero all = refl
fewer [] (suc n) all = refl
fewer (k ∷ known) zero all = refl
fewer (None ∷ known) (suc n) all = absurd cc
fewer (Some here ∷ known) (suc n) all = fewer known n all

-- those before it were found, if all reports agree
pub before-found : {N : Type 0} (text : N → List ℕ) (holds : List ℕ → Entry) (names : List N) (n : ℕ) (agree old : Bool)
    → (agree ≡ (old && list_all (λ file. is_some file) (files_of text holds (take n names))))
    ⊎ (agree ≡ (old && list_all (λ file. is_some file) (files_of text holds (take (n + 1) names)))) → agree ≡ true
    → list_all (λ file. is_some file) (take n (files_of text holds names)) ≡ true
before-found text holds names n agree old h all = grind (arith, take-files, fewer)

-- the name with a number
pub named-at : {N : Type 0} (text : N → List ℕ) (names : List N) (n : ℕ) (name : N) → n < length names
    → name ≡ slice_index_or names n name → slice_get (map text names) n ≡ Some (text name)
named-at text [] n name below is = absurd (omega (arith, below))
named-at text (here ∷ names) zero name below is = ap (λ x. Some (text x)) (sym is)
named-at text (here ∷ names) (suc n) name below is = named-at text names n name (omega (arith, below)) is

-- all are found, if all reports agree
pub all-found : {N : Type 0} (text : N → List ℕ) (holds : List ℕ → Entry) (names : List N) (agree old : Bool)
    → agree ≡ (old && list_all (λ file. is_some file) (files_of text holds names)) → agree ≡ true
    → (bytes : List (List ℕ)) × (files_at holds (map text names) ≡ Ok bytes)
all-found text holds names agree old is all = grind (arith, files-found)

-- the files of some names, by the names' bytes
pub files-named : {N : Type 0} (text : N → List ℕ) (holds : List ℕ → Entry) (names : List N)
    → files_of text holds names ≡ map (λ n. bytes_of (holds n)) (map text names)
files-named text holds [] = refl
files-named text holds (name ∷ names) = ap (λ k. bytes_of (holds (text name)) ∷ k) (files-named text holds names)

-- the same of a property of files
pub of-named : {N : Type 0} (P : List (Option (List ℕ)) → Type 0) (text : N → List ℕ) (holds : List ℕ → Entry)
    (names : List N) (paths : List (List ℕ)) → map text names ≡ paths → P (files_of text holds names)
    → P (map (λ n. bytes_of (holds n)) paths)
of-named P text holds names paths same is = grind (arith, files-named)

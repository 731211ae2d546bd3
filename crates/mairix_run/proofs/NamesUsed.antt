-- The names that the parts of a run use are among those of the run.
use Rattle.std.proofs.Common.{◌≡◌, refl, sym, subst, ℕ, zero, suc, ◌<◌, true, false, ◌&&◌, ◌||◌, ◌==◌, List, [], ◌∷◌, ◌++◌, map, length, Some, Ok, if◌then◌else◌, slice_index_or, arith}
use Rattle.std.proofs.lemmas.List.Elements.{Contains-append_left, Contains-append_right}
use Rattle.std.specs.List.{Contains}
use Rattle.mairix_options.specs.AnswerFiles.{answer_file}
use Rattle.mairix_options.specs.Rcfile.{rc_of}
use Rattle.mairix_options.specs.declared.command_line.Plan.{Plan}
use Rattle.mairix_options.specs.declared.rcfile.Rc.{Rc}
use Rattle.named_files.specs.Entries.{Entry, bytes_of}
use Rattle.mairix_run.specs.NamesUsed.{file_asked, names_asked, names_planned, both_names}
use Rattle.mairix_run.specs.Tasks.{is_index_run}
use Rattle.mairix_run.specs.WholeRuns.{temporary_of}

-- ---- names in a list

pub contains-first : (x : List ℕ) (xs : List (List ℕ)) → Contains (x ∷ xs) x
contains-first x xs = (0, omega arith, refl)

pub contains-more : (x y : List ℕ) (xs : List (List ℕ)) → Contains xs y → Contains (x ∷ xs) y
contains-more x y xs (k, below, is) = (suc k, omega (arith, below), is)

-- a name with a number
pub among-names : {N : Type 0} (text : N → List ℕ) (names : List N) (n : ℕ) (name : N) → name
    ≡ slice_index_or names n name
    → n < length names → Contains (map text names) (text name)
among-names text [] n name is below = absurd (omega (arith, below))
among-names text (here ∷ names) zero name is below =
    subst (λ x. Contains (map text (here ∷ names)) (text x)) (sym is)
    (contains-first (text here) (map text names))
among-names text (here ∷ names) (suc n) name is below = contains-more (text here) (text name)
    (map text names) (among-names text names n name is (omega (arith, below)))

-- ---- names that an rcfile asks for

module _ (p : Plan) (rc : Rc) where
  -- a search makes no file but that of its answer
  pub file-searched : is_index_run p ≡ false → answer_file p rc ≡ file_asked p rc
  file-searched is = grind arith

  -- an index run makes the index
  pub file-indexed : is_index_run p ≡ true → Some rc.database ≡ file_asked p rc
  file-indexed is = grind arith

  pub archives-asked : (path : List ℕ) → Contains rc.paths path → Contains (names_asked p rc) path
  archives-asked path among = Contains-append_left rc.paths _ path among

  pub new-index-asked : is_index_run p ≡ true → (path : List ℕ)
      → Contains (rc.database ∷ temporary_of rc.database ∷ []) path → Contains (names_asked p rc) path
  new-index-asked is path among = grind (arith, Contains-append_right)

  pub once-asked : p.once ≡ true → (path : List ℕ) → Contains (both_names (answer_file p rc)) path
      → Contains (names_asked p rc) path
  once-asked is path among = grind (arith, Contains-append_right)

  pub stored-asked : is_index_run p ≡ false → p.once ≡ false → (path : List ℕ)
      → Contains (rc.database ∷ both_names (answer_file p rc)) path → Contains (names_asked p rc) path
  stored-asked new is path among = grind (arith, Contains-append_right)

  -- an rcfile that is there asks for them
  pub asked-planned : (holds : List ℕ → Entry) (text : List ℕ) → bytes_of (holds p.rcfile) ≡ Some text
      → rc_of text ≡ Ok rc → (path : List ℕ) → Contains (names_asked p rc) path → Contains (names_planned holds p) path
  asked-planned holds text found said path among = grind (arith, contains-more)

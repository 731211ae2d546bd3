-- The files that a run reads, and whether another file leaves all of them as they are.
use Rattle.std.specs.Prelude.{ℕ, Bool, List, [], ◌∷◌, ◌++◌, map, Option, None, Some}
use Rattle.std.specs.List.{list_all}
use Rattle.std.specs.Option.{option_map_or}
use Rattle.mairix_run.specs.declared.read_names.ReadNames.{ReadNames}

-- the texts of the names of all files that a run reads: the rcfile, the index if it reads one, and the archives
abbrev pub names_read : {N : Type 0} → (N → List ℕ) → ReadNames N → List (List ℕ)
names_read text read = text read.rcfile.now ∷ (option_map_or (λ database. text database.now ∷ []) read.database []
    ++ map text read.archives.now)

-- whether each of these files is the same after another one takes the name
abbrev pub are_all_apart : (List ℕ → List ℕ → Bool) → List (List ℕ) → List ℕ → Bool
are_all_apart apart names name = list_all (λ read. apart read name) names

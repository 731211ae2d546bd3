-- Ids as they are read: text after text, each up to a `>`.
use Rattle.std.specs.Prelude.{ℕ, true, false, ◌==◌, List, [], ◌∷◌, Option, Some, None}
use Rattle.std.specs.List.{filter_map}
use Rattle.header_text.specs.Ids.{close_sign, open_sign, kept_ids}

-- the texts with one more byte at the front of the first; without texts nothing changes
abbrev pub onto_first : ℕ → List (List ℕ) → List (List ℕ)
onto_first b [] = []
onto_first b (text ∷ texts) = (b ∷ text) ∷ texts

-- the texts that end at a `>`, each from after the `>` before it
abbrev pub closed_texts : List ℕ → List (List ℕ)
closed_texts [] = []
closed_texts (b ∷ bs) = elim (b == close_sign) [ true ↦ [] ∷ closed_texts bs | false ↦ onto_first b (closed_texts bs) ]

-- what is after the last `<`, if there is one
abbrev pub after_last_open : List ℕ → Option (List ℕ)
after_last_open [] = None
after_last_open (b ∷ bs) = elim (after_last_open bs)
    [ Some id ↦ Some id | None ↦ elim (b == open_sign) [ true ↦ Some bs | false ↦ None ] ]

-- the ids of texts that end at a `>`
abbrev pub ids_of_texts : List (List ℕ) → List (List ℕ)
ids_of_texts texts = kept_ids (filter_map after_last_open texts)

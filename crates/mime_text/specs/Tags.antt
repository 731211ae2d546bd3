-- The tags of HTML, by the characters of the whole text.
use Rattle.std.specs.Prelude.{ℕ, Bool, true, false, ◌||◌, ◌==◌, if◌then◌else◌, List, [], ◌∷◌, ◌++◌, reverse}

-- whether there is a `<` with no `>` after it in the characters before, which are given from the last to the first
abbrev pub is_open : List ℕ → Bool
is_open [] = false
is_open (c ∷ before) = elim (c == 0x3C) [
  | true ↦ true
  | false ↦ elim (c == 0x3E)
      [ true ↦ false | false ↦ is_open before ]
]

-- Whether a character is in a tag, if these are before it, the nearest first: a tag goes from a `<` to the next `>`, or
-- to the end if there is none, both included.
abbrev pub is_in_tag : List ℕ → ℕ → Bool
is_in_tag before c = is_open before || (c == 0x3C)

-- the characters with a space for each in a tag; before are the characters before them, the nearest first
abbrev pub without_tags : List ℕ → List ℕ → List ℕ
without_tags before [] = []
without_tags before (c ∷ cs) = (if is_in_tag before c then 0x20 else c) ∷ without_tags (c ∷ before) cs

-- the same line by line; before are the characters before the lines, the nearest first
abbrev pub lines_without_tags : List ℕ → List (List ℕ) → List (List ℕ)
lines_without_tags before [] = []
lines_without_tags before (line ∷ ls) = without_tags before line ∷ lines_without_tags (reverse line ++ before) ls

-- Which texts can name files, and how a name is put under a base.
use Rattle.std.specs.Prelude.{ℕ, ◌==◌, nat_eq, nat_lt, nat_le, Bool, false, not, ◌&&◌, ◌||◌, if◌then◌else◌, List, []}
use Rattle.std.specs.Prelude.{◌∷◌, ◌++◌, Option, Some, None, length, codes}
use Rattle.std.specs.List.{list_any, starts_with}
use Rattle.mail_index.specs.Limits.{most_in_path}

-- whether a text can name a file: it has 1 to 4,096 bytes, none of them LF or NUL
abbrev pub is_path : List ℕ → Bool
is_path text = nat_lt 0 (length text)
    && (nat_le (length text) most_in_path && not (list_any (λ b. b == 10 || b == 0) text))

-- whether a shell would expand the text: it has a `$` anywhere, or a `~` at the front
abbrev pub has_expansion : List ℕ → Bool
has_expansion text = list_any (λ b. b == 36) text || starts_with nat_eq text (codes "~")

-- whether a text has `...` anywhere
abbrev pub has_three_dots : List ℕ → Bool
has_three_dots [] = false
has_three_dots (b ∷ text) = starts_with nat_eq (b ∷ text) (codes "...") || has_three_dots text

-- whether a text is a pattern for several names: it has `*`, `?`, `[` or `...` anywhere
abbrev pub has_wildcard : List ℕ → Bool
has_wildcard text = list_any (λ b. b == 42 || b == 63 || b == 91) text || has_three_dots text

-- ---- under a base

-- a folder and a name, with a slash between them
abbrev pub path_in_folder : List ℕ → List ℕ → List ℕ
path_in_folder folder name = folder ++ 47 ∷ name

-- a name under the base; without a base, or if the name counts as written, the name itself
abbrev pub under : Option (List ℕ) → Bool → List ℕ → List ℕ
under None as_written name = name
under (Some base) as_written name = if as_written then name else path_in_folder base name

-- the path of an archive: a name that begins with `/` counts as written
abbrev pub archive_path : Option (List ℕ) → List ℕ → List ℕ
archive_path base name = under base (starts_with nat_eq name (codes "/")) name

-- the path of `mfolder`, or of the name in `-o`: a name that begins with `/` or `.` counts as written
abbrev pub mfolder_path : Option (List ℕ) → List ℕ → List ℕ
mfolder_path base name = under base (starts_with nat_eq name (codes "/") || starts_with nat_eq name (codes ".")) name

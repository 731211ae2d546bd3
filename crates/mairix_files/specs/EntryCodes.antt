-- How the logic stores what a name is supposed to lead to.
use Rattle.std.specs.Prelude.{◌≡◌, ℕ, ◌==◌, List, [], cond, refl}
use Rattle.std.specs.Coded.{Coded, code_by, coded×, coded_ℕ, coded_list}
use Rattle.named_files.specs.Entries.{Entry, Nothing, File, Folder, Other}

-- its kind, and the bytes of a file
abbrev parts_of_entry : Entry → ℕ × List ℕ
parts_of_entry Nothing = (0, [])
parts_of_entry (File bytes) = (1, bytes)
parts_of_entry Folder = (2, [])
parts_of_entry Other = (3, [])

-- what has this kind and these bytes
abbrev entry_of_parts : ℕ × List ℕ → Entry
entry_of_parts p = cond (p.0 == 0) Nothing (cond (p.0 == 1) (File p.1) (cond (p.0 == 2) Folder Other))

-- an entry is got back from its parts
pub entry_of_parts-parts_of_entry : (entry : Entry) → entry_of_parts (parts_of_entry entry) ≡ entry
entry_of_parts-parts_of_entry Nothing = refl
entry_of_parts-parts_of_entry (File bytes) = refl
entry_of_parts-parts_of_entry Folder = refl
entry_of_parts-parts_of_entry Other = refl

-- how the logic stores an entry, by its parts
abbrev pub entry_code : Coded Entry
entry_code = code_by (ℕ × List ℕ) (coded× coded_ℕ (coded_list coded_ℕ)) parts_of_entry entry_of_parts
    entry_of_parts-parts_of_entry

-- How a call on a name is passed to a record, and how the logic stores it.
use Rattle.std.specs.Prelude.{◌≡◌, ℕ, ◌==◌, Bool, false, List, [], cond, if◌then◌else◌, slice_index, refl}
use Rattle.std.specs.Coded.{Coded, code_by, coded×, coded_ℕ, coded_bool, coded_list}
use Rattle.mairix_files.specs.NameCalls.{NameCall, Made, Renamed, Kept, Discarded, Cleared}

-- The call of these two numbers, this name and these bytes. The numbers are its kind (0 makes a file, 1 renames it, 2
-- brings a name to the disk, 3 removes a file that was made, any other removes what was left), and 1 for a file on the
-- disk.
abbrev pub name_call_of : List ℕ → List ℕ → List ℕ → NameCall
name_call_of numbers name bytes =
    if slice_index numbers 0 == 0 then Made name
    else (if slice_index numbers 0 == 1 then Renamed name bytes (slice_index numbers 1 == 1)
    else (if slice_index numbers 0 == 2 then Kept name
    else (if slice_index numbers 0 == 3 then Discarded else Cleared name)))

-- ---- how the logic stores a call

-- what is stored of a call: its kind, a name, bytes, and whether they were on the disk
abbrev NameCallParts : Type 0
NameCallParts = ℕ × (List ℕ × (List ℕ × Bool))

-- the parts of a call
abbrev parts_of_name_call : NameCall → NameCallParts
parts_of_name_call (Made name) = (0, (name, ([], false)))
parts_of_name_call (Renamed name bytes kept) = (1, (name, (bytes, kept)))
parts_of_name_call (Kept name) = (2, (name, ([], false)))
parts_of_name_call Discarded = (3, ([], ([], false)))
parts_of_name_call (Cleared name) = (4, (name, ([], false)))

-- the call of these parts
abbrev name_call_of_parts : NameCallParts → NameCall
name_call_of_parts p =
    cond (p.0 == 0) (Made p.1.0)
    (cond (p.0 == 1) (Renamed p.1.0 p.1.1.0 p.1.1.1)
    (cond (p.0 == 2) (Kept p.1.0) (cond (p.0 == 3) Discarded (Cleared p.1.0))))

-- a call is got back from its parts
pub name_call_of_parts-parts_of_name_call : (call : NameCall) → name_call_of_parts (parts_of_name_call call) ≡ call
name_call_of_parts-parts_of_name_call (Made name) = refl
name_call_of_parts-parts_of_name_call (Renamed name bytes kept) = refl
name_call_of_parts-parts_of_name_call (Kept name) = refl
name_call_of_parts-parts_of_name_call Discarded = refl
name_call_of_parts-parts_of_name_call (Cleared name) = refl

-- how the logic stores a call, by its parts
abbrev pub name_call_code : Coded NameCall
name_call_code =
    code_by NameCallParts (coded× coded_ℕ (coded× (coded_list coded_ℕ) (coded× (coded_list coded_ℕ) coded_bool)))
    parts_of_name_call name_call_of_parts name_call_of_parts-parts_of_name_call

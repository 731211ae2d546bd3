-- How a call is passed to a record, and how the logic stores it.
use Rattle.std.specs.Prelude.{◌≡◌, ℕ, ◌==◌, Bool, List, cond, if◌then◌else◌, slice_index, Option, None, Some, refl}
use Rattle.std.specs.Coded.{Coded, code_by, coded×, coded_ℕ, coded_list, coded_option}
use Rattle.call_record.specs.Calls.{Call, read_next, read_at, measured, written}

-- the answer of a call that succeeded; None for one that failed
abbrev answer_of_call : {T : Type 0} → Bool → T → Option T
answer_of_call ok answer = if ok then Some answer else None

-- The call of these four numbers and these bytes. The numbers are its kind (0 reads on, 1 reads at an offset, 2
-- measures, any other writes), an archive's number, an offset or a length, and 1 for success.
abbrev pub call_of : List ℕ → List ℕ → Call
call_of numbers bytes =
    let ok = slice_index numbers 3 == 1 in
    if slice_index numbers 0 == 0 then read_next (answer_of_call ok bytes)
    else (if slice_index numbers 0 == 1 then read_at (slice_index numbers 1) (slice_index numbers 2)
    (answer_of_call ok bytes)
    else (if slice_index numbers 0 == 2 then measured (slice_index numbers 1)
    (answer_of_call ok (slice_index numbers 2))
    else written (answer_of_call ok bytes)))

-- ---- how the logic stores a call

-- what the logic stores of a call: its kind, an archive's number, an offset, a length, and bytes
abbrev CallParts : Type 0
CallParts = ℕ × (ℕ × (ℕ × (Option ℕ × Option (List ℕ))))

-- the parts of a call
abbrev parts_of_call : Call → CallParts
parts_of_call (read_next bytes) = (0, (0, (0, (None, bytes))))
parts_of_call (read_at n offset bytes) = (1, (n, (offset, (None, bytes))))
parts_of_call (measured n size) = (2, (n, (0, (size, None))))
parts_of_call (written bytes) = (3, (0, (0, (None, bytes))))

-- the call of these parts
abbrev call_of_parts : CallParts → Call
call_of_parts p =
    cond (p.0 == 0) (read_next p.1.1.1.1)
    (cond (p.0 == 1) (read_at p.1.0 p.1.1.0 p.1.1.1.1) (cond (p.0 == 2) (measured p.1.0 p.1.1.1.0) (written p.1.1.1.1)))

-- a call is got back from its parts
pub call_of_parts-parts_of_call : (call : Call) → call_of_parts (parts_of_call call) ≡ call
call_of_parts-parts_of_call (read_next bytes) = refl
call_of_parts-parts_of_call (read_at n offset bytes) = refl
call_of_parts-parts_of_call (measured n size) = refl
call_of_parts-parts_of_call (written bytes) = refl

-- how the logic stores a call, by its parts
abbrev pub call_code : Coded Call
call_code =
    code_by CallParts
    (coded× coded_ℕ (coded× coded_ℕ (coded× coded_ℕ
    (coded× (coded_option coded_ℕ) (coded_option (coded_list coded_ℕ))))))
    parts_of_call call_of_parts call_of_parts-parts_of_call

-- A list of postings while it grows: the numbers so far, and how they are read back from its bytes.
use Rattle.std.specs.Prelude.{◌≡◌, ℕ, suc, ◌+◌, ◌-◌, ◌*◌, ◌<◌, ◌≤◌, nat_lt, if◌then◌else◌, List, [], ◌∷◌, ◌++◌, length}
use Rattle.std.specs.Prelude.{fold}
use Rattle.mail_index.specs.Postings.{postings}
use Rattle.mail_index.specs.Limits.{four_byte_limit}

-- one past the last number, or `low` if there is none
abbrev pub end_from : ℕ → List ℕ → ℕ
end_from low [] = low
end_from low (n ∷ ns) = end_from (suc n) ns

-- the rising numbers with n at their end, unless the last of them isn't below n
unfoldable pub with_number : List ℕ → ℕ → List ℕ
with_number numbers n = if nat_lt n (end_from 0 numbers) then numbers else numbers ++ n ∷ []

-- What bytes of postings give: the whole numbers, and one past the last of them; of a difference that goes on, the part
-- so far, and the weight of its next seven bits.
pub record DecodingState : Type 0 where
  pub numbers : List ℕ
  pub next : ℕ
  pub part : ℕ
  pub weight : ℕ

-- the state after these whole numbers, with no difference begun
abbrev pub state_after_numbers : List ℕ → ℕ → DecodingState
state_after_numbers numbers next = record { numbers = numbers; next = next; part = 0; weight = 1 }

-- the state after one more byte: a byte below 128 ends a difference
unfoldable pub state_after_byte : DecodingState → ℕ → DecodingState
state_after_byte t b =
    if nat_lt b 128
    then state_after_numbers (t.numbers ++ (t.next + (t.part + b * t.weight) - 1) ∷ [])
    (t.next + (t.part + b * t.weight))
    else record { numbers = t.numbers; next = t.next; part = t.part + (b - 128) * t.weight; weight = 128 * t.weight }

-- what these bytes give, from the first to the last
abbrev pub numbers_so_far : List ℕ → DecodingState
numbers_so_far bytes = fold state_after_byte (state_after_numbers [] 0) bytes

-- the numbers of postings
unfoldable pub numbers_of : List ℕ → List ℕ
numbers_of bytes = (numbers_so_far bytes).numbers

-- the bytes are exactly the postings of the numbers that they give, and `next` is one past the last of these
pub record IsPosted (bytes : List ℕ) (next : ℕ) : Type 0 where
  pub told : numbers_so_far bytes ≡ state_after_numbers (numbers_of bytes) next
  pub spelled : postings (numbers_of bytes) ≡ bytes
  pub ends : end_from 0 (numbers_of bytes) ≡ next
  pub short : length bytes ≤ next
  pub small : next < four_byte_limit

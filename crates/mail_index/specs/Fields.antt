-- Numbers in a file by their offset, with the highest byte first.
use Rattle.std.specs.Prelude.{ℕ, ◌+◌, Bool, ◌&&◌, nat_eq, List, take, drop, get_or}
use Rattle.std.specs.Int.{w32, w64, from_be_bytes}

-- the byte at an offset, or 0 after the end
abbrev pub byte_at : List ℕ → ℕ → ℕ
byte_at bytes i = get_or bytes i 0

-- the number of four bytes at an offset
abbrev pub u32_at : List ℕ → ℕ → ℕ
u32_at bytes i = from_be_bytes w32 (take 4 (drop i bytes))

-- the number of eight bytes at an offset
abbrev pub u64_at : List ℕ → ℕ → ℕ
u64_at bytes i = from_be_bytes w64 (take 8 (drop i bytes))

-- whether the three bytes at an offset are zeros
abbrev pub are_zeros_at : List ℕ → ℕ → Bool
are_zeros_at bytes i =
    nat_eq (byte_at bytes i) 0 && nat_eq (byte_at bytes (i + 1)) 0 && nat_eq (byte_at bytes (i + 2)) 0

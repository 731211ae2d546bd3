-- Characters that folding leaves as they are.
use Rattle.std.specs.Prelude.{ℕ, ◌+◌, Bool, not, ◌&&◌, ◌||◌, ◌==◌, List, length, slice_index, nat_eq, nat_le, nat_lt}
use Rattle.std.specs.Char.{is_ascii_uppercase}
use Rattle.ucd_case.specs.CaseFolding.{full_folding}

-- whether folding leaves the character as it is: full case folding has no entry for it
abbrev pub keeps_itself : ℕ → Bool
keeps_itself c = nat_eq (length (full_folding c)) 0

-- whether a byte is ASCII, but no capital letter
abbrev pub is_kept_byte : ℕ → Bool
is_kept_byte b = nat_lt b 128 && not (is_ascii_uppercase b)

-- whether the character is beyond ASCII, and folding leaves it as it is
abbrev pub is_kept_letter : ℕ → Bool
is_kept_letter c = not (nat_lt c 128) && keeps_itself c

-- ---- bytes that show whether folding keeps a character

-- whether these are the first two bytes of à to ÿ; of ά to ο, but for ΰ; of π to ώ, but for ς; of а to п; of р to џ; or
-- of a character of U+05C0 to U+0FFF: folding leaves all of these as they are
abbrev pub is_kept_pair : ℕ → ℕ → Bool
is_kept_pair b next =
    b == 0xC3 && nat_le 0xA0 next
    || (b == 0xCE && (nat_le 0xAC next && not (next == 0xB0)) || b == 0xCF && (nat_le next 0x8E && not (next == 0x82)))
    || (b == 0xD0 && nat_le 0xB0 next || b == 0xD1 && nat_le next 0x9F)
    || nat_le 0xD7 b && nat_le b 0xE0

-- whether a byte, which another one follows, is a capital letter of ASCII, or the first byte of a character beyond
-- ASCII that isn't one of these
abbrev pub is_stop : ℕ → ℕ → Bool
is_stop b next = nat_le 0x41 b && nat_le b 0x5A || nat_le 0xC0 b && not (is_kept_pair b next)

-- the same of the byte at a place; after the last byte comes a zero
abbrev pub is_stop_at : List ℕ → ℕ → Bool
is_stop_at bytes k = is_stop (slice_index bytes k) (slice_index bytes (k + 1))

-- whether a byte is a capital letter of ASCII, or the first byte of a character beyond ASCII
abbrev pub is_capital_or_first : ℕ → Bool
is_capital_or_first b = is_ascii_uppercase b || nat_le 0xC0 b

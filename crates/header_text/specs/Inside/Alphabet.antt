-- The symbols of base64.
use Rattle.std.specs.Prelude.{ℕ, Bool, ◌&&◌, ◌||◌, ◌==◌, nat_le}

-- whether a byte is a symbol: a letter, a digit, `+` or `/`
abbrev pub is_symbol : ℕ → Bool
is_symbol b = (nat_le 0x41 b && nat_le b 0x5A) || (nat_le 0x61 b && nat_le b 0x7A) || (nat_le 0x30 b && nat_le b 0x39)
    || (b == 0x2B) || (b == 0x2F)

-- How bytes with escapes are decoded, in quoted-printable and in Q; an escape is `=` and two hexadecimal digits (RFC
-- 2045, 6.7; RFC 2047, 4.2).
use Rattle.std.specs.Prelude.{ℕ, ◌+◌, ◌-◌, ◌*◌, ◌&&◌, ◌==◌, nat_le, List, [], ◌∷◌, Option, Some, None, if◌then◌else◌}
use Rattle.std.specs.Prelude.{option_map, option_and_then}

-- the value of a hexadecimal digit, in either case
abbrev pub hex_value : ℕ → Option ℕ
hex_value b =
    if nat_le 0x30 b && nat_le b 0x39 then Some (b - 0x30)
    else if nat_le 0x41 b && nat_le b 0x46 then Some (b - 0x41 + 10)
    else if nat_le 0x61 b && nat_le b 0x66 then Some (b - 0x61 + 10) else None

-- the byte that three bytes encode, if they are `=` and two hexadecimal digits
abbrev pub escaped_byte : ℕ → ℕ → ℕ → Option ℕ
escaped_byte a b c = if a == 0x3D then option_and_then (λ high. option_map (λ low. high * 16 + low) (hex_value c))
    (hex_value b) else None

-- `other` says what becomes of a byte that isn't in an escape.
module _ (other : ℕ → ℕ) where
  -- bytes with each escape decoded, and `other` applied to any other byte
  abbrev pub unescaped_by : List ℕ → List ℕ
  unescaped_by [] = []
  unescaped_by (a ∷ []) = other a ∷ []
  unescaped_by (a ∷ b ∷ []) = other a ∷ other b ∷ []
  unescaped_by (a ∷ b ∷ c ∷ bytes) = elim (escaped_byte a b c)
      [ Some n ↦ n ∷ unescaped_by bytes | None ↦ other a ∷ unescaped_by (b ∷ c ∷ bytes) ]

-- bytes decoded as in quoted-printable: any byte outside an escape stays
unfoldable pub unescaped_bytes : List ℕ → List ℕ
unescaped_bytes = unescaped_by (λ b. b)

-- bytes decoded as in Q: outside an escape `_` becomes a space, and any other byte stays
unfoldable pub q_bytes : List ℕ → List ℕ
q_bytes = unescaped_by (λ b. if b == 0x5F then 0x20 else b)

-- an `=` before these bytes, decoded: the byte of the escape and what follows it, or the `=` and these bytes if it
-- begins no escape
abbrev pub after_equals : List ℕ → ℕ × List ℕ
after_equals (b ∷ c ∷ bytes) = elim (escaped_byte 0x3D b c) [ Some n ↦ (n, bytes) | None ↦ (0x3D, b ∷ c ∷ bytes) ]
after_equals bytes = (0x3D, bytes)

-- The bytes of a text in base64 (RFC 4648, 4), read leniently: bytes outside the alphabet are skipped, the text ends at
-- the first `=`, and two or three symbols left over give one or two bytes.
use Rattle.std.specs.Prelude.{ℕ, not, ◌==◌, List, [], ◌∷◌, ◌++◌, take, Option}
use Rattle.std.specs.List.{position, filter_map}
use Rattle.base64.specs.Engines.{standard}
use Rattle.base64.specs.GeneralPurpose.{engine_symbols}
use Rattle.base64.specs.Decode.{decode_group}
use Rattle.header_text.specs.Blanks.{split_while}

-- the value of a symbol, which is its place in the alphabet; any other byte has none
unfoldable pub sextet : ℕ → Option ℕ
sextet b = position (λ symbol. symbol == b) (engine_symbols standard)

-- the bytes of sextets, three of each group of four; a rest of three gives two, a rest of two gives one, and a rest of
-- one gives none
unfoldable pub bytes_of_sextets : List ℕ → List ℕ
bytes_of_sextets (a ∷ b ∷ c ∷ d ∷ rest) = decode_group a b c d ++ bytes_of_sextets rest
bytes_of_sextets (a ∷ b ∷ c ∷ []) = take 2 (decode_group a b c 0)
bytes_of_sextets (a ∷ b ∷ []) = take 1 (decode_group a b 0 0)
bytes_of_sextets (a ∷ []) = []
bytes_of_sextets [] = []

-- the bytes of a text without `=`: bytes outside the alphabet are skipped
abbrev pub bytes_of_symbols : List ℕ → List ℕ
bytes_of_symbols text = bytes_of_sextets (filter_map sextet text)

-- the bytes of a text, which ends before its first `=`
unfoldable pub base64_bytes : List ℕ → List ℕ
base64_bytes text = bytes_of_symbols (split_while (λ b. not (b == 0x3D)) text).0

-- The parameters of a Content-Type field (RFC 2045, 5.1) or a Content-Disposition field (RFC 2183, 2), read leniently.
use Rattle.std.specs.Prelude.{ℕ, zero, suc, Bool, true, false, not, ◌||◌, ◌==◌, if◌then◌else◌, List, [], ◌∷◌, ◌++◌}
use Rattle.std.specs.Prelude.{length, Option, None, Some, option_map}
use Rattle.std.specs.List.{find}
use Rattle.std.specs.Option.{option_map_or, option_to_list}
use Rattle.header_text.specs.Blanks.{split_while, after_blanks, without_outer_blanks}
use Rattle.contract_words.specs.Blanks.{is_blank}
use Rattle.header_text.specs.Cuts.{cut_at}
use Rattle.header_text.specs.Names.{is_named}
use Rattle.header_text.specs.EncodedWords.{equals_sign}

-- a parameter: its name and its value without quotes
pub record Parameter : Type 0 where
  pub name : List ℕ
  pub value : List ℕ

-- `;`, which comes before each parameter
abbrev pub semicolon : ℕ
semicolon = 0x3B

-- `"`, which begins and ends a quoted value
abbrev pub quote : ℕ
quote = 0x22

-- `\`, after which a byte of a quoted value is taken as it is
abbrev pub backslash : ℕ
backslash = 0x5C

-- What is in quotes, from after the first quote, and what follows the quotes. A backslash is dropped, and the byte
-- after it is taken as it is. The quotes end at the next other quote, or with the field.
abbrev pub quoted_and_rest : List ℕ → List ℕ × List ℕ
quoted_and_rest [] = ([], [])
quoted_and_rest (b ∷ []) = if (b == quote) || (b == backslash) then ([], []) else (b ∷ [], [])
quoted_and_rest (b ∷ c ∷ bs) = elim (b == quote) [
  | true ↦ ([], c ∷ bs)
  | false ↦ elim (b == backslash) [
    | true ↦ let rest = quoted_and_rest bs in (c ∷ rest.0, rest.1)
    | false ↦ let rest = quoted_and_rest (c ∷ bs) in (b ∷ rest.0, rest.1)
  ]
]

-- whether this byte goes on a value without quotes: such a value ends before a semicolon, space or tab
abbrev pub is_token_byte : ℕ → Bool
is_token_byte b = not ((b == semicolon) || is_blank b)

-- the value that begins these bytes, and what follows it; quotes begin only if a quote is the value's first byte
abbrev pub value_and_rest : List ℕ → List ℕ × List ℕ
value_and_rest [] = ([], [])
value_and_rest (b ∷ bs) = elim (b == quote) [ true ↦ quoted_and_rest bs | false ↦ split_while is_token_byte (b ∷ bs) ]

-- whether this byte goes on a name: a name ends before `=`; text that ends before a semicolon is no parameter
abbrev pub is_parameter_name_byte : ℕ → Bool
is_parameter_name_byte b = not ((b == semicolon) || (b == equals_sign))

-- what is between a semicolon and the next one: a parameter, or None for text that doesn't count; and what follows the
-- next semicolon, if there is one
pub record Piece : Type 0 where
  pub parameter : Option Parameter
  pub later : Option (List ℕ)

-- what follows the first semicolon, if there is one
abbrev pub after_semicolon : List ℕ → Option (List ℕ)
after_semicolon bs = option_map (λ parts. parts.1) (cut_at semicolon bs)

-- A parameter is a name, `=` and a value, with spaces and tabs around each. Text without `=` before the next semicolon
-- isn't a parameter, and text between a value and the next semicolon doesn't count.
unfoldable pub piece_of : List ℕ → Piece
piece_of bs = let front = split_while is_parameter_name_byte bs in elim (front.1) [
  | [] ↦ record { parameter = None; later = None }
  | c ∷ rest ↦ elim (c == equals_sign) [
    | false ↦ record { parameter = None; later = Some rest }
    | true ↦ let found = value_and_rest (after_blanks rest) in
        record {
          parameter = Some (record { name = without_outer_blanks front.0; value = found.0 });
          later =
              after_semicolon found.1;
        }
  ]
]

-- These are the parameters of the pieces, if the first piece begins these bytes; each piece says where the next one
-- begins.
pub data AreParameters : Option (List ℕ) → List Parameter → Type 0 where
  none_left : AreParameters None []
  piece_first : {bs : List ℕ} {later : List Parameter} → AreParameters (piece_of bs).later later
      → AreParameters (Some bs) (option_to_list (piece_of bs).parameter ++ later)

-- the parameters of the first pieces of these bytes, of at most this many pieces
abbrev pub parameters_within : ℕ → List ℕ → List Parameter
parameters_within zero bs = []
parameters_within (suc n) bs = option_to_list (piece_of bs).parameter ++ option_map_or
    (λ rest. parameters_within n rest) (piece_of bs).later []

-- The parameters after a semicolon, if there is one; there are no more pieces than bytes. These are the parameters of
-- the pieces, as AreParameters defines them, and no other list is.
abbrev pub parameters_after : Option (List ℕ) → List Parameter
parameters_after None = []
parameters_after (Some bs) = parameters_within (length bs) bs

-- the parameters of an unfolded value, in order
abbrev pub parameters : List ℕ → List Parameter
parameters value = parameters_after (after_semicolon value)

-- the value of the first parameter with this name, in any ASCII case
abbrev pub first_named : List ℕ → List Parameter → Option (List ℕ)
first_named name ps = option_map (λ p. p.value) (find (λ p. is_named p.name name) ps)

-- the value of an unfolded value's parameter with this name; the first one counts
unfoldable pub parameter : List ℕ → List ℕ → Option (List ℕ)
parameter name value = first_named name (parameters value)

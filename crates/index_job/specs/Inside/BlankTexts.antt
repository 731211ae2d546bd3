-- Texts in which a look at each byte finds no words.
use Rattle.std.specs.Prelude.{ℕ, Bool, nat_le, List}
use Rattle.std.specs.List.{list_all}

-- whether all bytes are spaces and control characters of ASCII
abbrev pub is_blank_text : List ℕ → Bool
is_blank_text text = list_all (λ b. nat_le b 0x20) text

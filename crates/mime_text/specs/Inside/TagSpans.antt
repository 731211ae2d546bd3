-- Spans of a text: the characters inside one tag, or between two tags.
use Rattle.std.specs.Prelude.{ℕ, Bool, true, false, List, length, replicate}

-- the character that ends a span: `>` for a tag, and `<` outside tags
abbrev pub span_end : Bool → ℕ
span_end true = 0x3E
span_end false = 0x3C

-- the characters that a span is written as: in a tag a space for each
abbrev pub shown_span : Bool → List ℕ → List ℕ
shown_span true cs = replicate (length cs) 0x20
shown_span false cs = cs

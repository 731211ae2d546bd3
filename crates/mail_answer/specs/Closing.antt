-- The text of a span in an mbox answer, line by line.
use Rattle.std.specs.Prelude.{ℕ, Bool, ◌||◌, ◌==◌, nat_eq, List, [], ◌∷◌, ◌++◌, length, take, drop, if◌then◌else◌}
use Rattle.std.specs.List.{list_any}
use Rattle.std.specs.Str.{bytes_eq}
use Rattle.mbox_cutter.specs.Lines.{is_empty, first_length}

-- a line feed
abbrev pub feed : List ℕ
feed = 10 ∷ []

-- whether a line has a line feed
abbrev pub has_feed : List ℕ → Bool
has_feed line = list_any (λ b. b == 10) line

-- the line feeds that close a last line: none after an empty one, one after a line with LF or after CR alone, otherwise
-- two
abbrev pub feeds_after : List ℕ → List ℕ
feeds_after line = if is_empty line then [] else if has_feed line || bytes_eq line (13 ∷ []) then feed
    else feed ++ feed

-- the bytes after the first line
abbrev pub after_next : List ℕ → List ℕ
after_next bytes = drop (first_length bytes) bytes

-- what closes the line, if it is the last
abbrev pub feeds_if : Bool → List ℕ → List ℕ
feeds_if last line = if last then feeds_after line else []

-- the first line, with what closes it if it is the last
abbrev pub next_text : List ℕ → List ℕ
next_text bytes = take (first_length bytes) bytes ++ feeds_if (nat_eq (first_length bytes) (length bytes))
    (take (first_length bytes) bytes)

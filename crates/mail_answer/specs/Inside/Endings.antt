-- The last line of some bytes, and what closes it.
use Rattle.std.specs.Prelude.{ℕ, ◌+◌, ◌==◌, nat_lt, List, [], ◌∷◌, ◌++◌, length, if◌then◌else◌}
use Rattle.std.specs.Str.{bytes_eq}
use Rattle.mbox_cutter.specs.Lines.{is_empty, lines}
use Rattle.mail_answer.specs.Closing.{feed, has_feed}
use Rattle.mail_answer.specs.Shapes.{last_line_of}
use Rattle.mail_answer.specs.declared.output.ending.Ending.{Ending}
use Rattle.mail_answer.specs.declared.output.ending.Ending.TheVariants.{Empty, Ended, Return, Open}

-- the ending of a line: it is empty, or has LF, or is CR alone, or has this many other bytes
abbrev pub ending_of_line : List ℕ → Ending
ending_of_line line = if is_empty line then Empty else if has_feed line then Ended else if bytes_eq line (13 ∷ [])
    then Return else Open (length line)

-- the ending of the last line of these bytes
abbrev pub ending_of_bytes : List ℕ → Ending
ending_of_bytes bytes = ending_of_line (last_line_of (lines bytes))

-- the ending of a line that is this byte
abbrev pub line_of : ℕ → Ending
line_of b = if b == 10 then Empty else if b == 13 then Return else Open 1

-- the ending after one more byte: LF ends a line that has none, and after 65,536 bytes without LF another line begins
abbrev pub with_byte : Ending → ℕ → Ending
with_byte Empty b = line_of b
with_byte Ended b = line_of b
with_byte Return b = if b == 10 then Empty else Open 2
with_byte (Open n) b = if n == 0 then line_of b else if b == 10 then Ended else if nat_lt n 65536 then Open (n + 1)
    else line_of b

-- the line feeds after which the last line is empty
abbrev pub feeds_of : Ending → List ℕ
feeds_of Empty = []
feeds_of Ended = feed
feeds_of Return = feed
feeds_of (Open n) = feed ++ feed

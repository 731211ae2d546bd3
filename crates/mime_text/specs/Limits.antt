-- The most bytes that lines, texts and boundaries have.
use Rattle.std.specs.Prelude.{ℕ, ◌+◌, ◌*◌}
use Rattle.mbox_cutter.specs.Lines.{most_before_feed}
use Rattle.header_text.specs.Headers.{most_in_header}

-- the most bytes of a line, its LF included
abbrev pub most_in_line : ℕ
most_in_line = most_before_feed + 1

-- the most bytes of a line's text: three for each byte of the line
abbrev pub most_in_line_text : ℕ
most_in_line_text = 3 * most_in_line

-- the most bytes of a text of a header: three for each byte that is kept of a header
abbrev pub most_in_header_text : ℕ
most_in_header_text = 3 * most_in_header

-- the most bytes of a boundary (RFC 2046, 5.1.1)
abbrev pub most_in_boundary : ℕ
most_in_boundary = 70

-- Whether lines to come still count in a header.
use Rattle.std.specs.Prelude.{ℕ, ◌+◌, ◌-◌, Bool, nat_lt, List, [], ◌∷◌, length, if◌then◌else◌}
use Rattle.std.specs.List.{list_any}
use Rattle.mbox_cutter.specs.Lines.{is_empty}
use Rattle.header_text.specs.Headers.{most_in_header, header}
use Rattle.header_text.specs.declared.header.Stage.{Stage}
use Rattle.header_text.specs.declared.header.Stage.TheVariants.{Open, Full, Ended}

-- whether an empty line is among the lines, so that the header has ended
abbrev pub has_empty : List (List ℕ) → Bool
has_empty ls = list_any is_empty ls

-- the number of bytes of lines
abbrev pub lines_size : List (List ℕ) → ℕ
lines_size [] = 0
lines_size (l ∷ ls) = length l + lines_size ls

-- the stage after these lines: `Ended` after an empty line; if there is none, `Full` after a line that didn't fit;
-- otherwise `Open`
unfoldable pub stage_of : List (List ℕ) → Stage
stage_of ls = if has_empty ls then Ended else if nat_lt (length (header ls)) (length ls) then Full else Open

-- the stage after a line; the lines that counted before it have `size` bytes
abbrev pub stage_after : Stage → ℕ → List ℕ → Stage
stage_after Ended size l = Ended
stage_after Full size l = if is_empty l then Ended else Full
stage_after Open size l = if is_empty l then Ended else if nat_lt (most_in_header - size) (length l) then Full
    else Open

-- The lines of bytes. A line ends after its LF, or at the end. It also ends after 65,536 bytes without LF, if the next
-- byte isn't LF.
use Rattle.std.specs.Prelude.{◌≡◌, ℕ, zero, suc, ◌+◌, ◌<◌, ◌≤◌, ◌==◌, ◌||◌, Bool, nat_lt, if◌then◌else◌, List, [], ◌∷◌}
use Rattle.std.specs.Prelude.{Option, None, Some, length, take, drop}
use Rattle.std.specs.List.{concat}
use Rattle.std.specs.Str.{bytes_eq}

-- the most bytes that a line has, without its LF
abbrev pub most_before_feed : ℕ
most_before_feed = 65536

-- whether a line is LF or CR LF alone
unfoldable pub is_empty : List ℕ → Bool
is_empty line = bytes_eq line (10 ∷ []) || bytes_eq line (13 ∷ 10 ∷ [])

-- the number of bytes before the first LF
abbrev pub length_before_feed : List ℕ → ℕ
length_before_feed [] = 0
length_before_feed (b ∷ bytes) = if b == 10 then 0 else suc (length_before_feed bytes)

-- The length of the first line, if bytes that follow can't change it. The line ends with the first LF, if that is among
-- the first 65,537 bytes. If these are there without LF, it ends after 65,536.
unfoldable pub line_end_of : List ℕ → Option ℕ
line_end_of bytes =
    if nat_lt most_before_feed (length_before_feed bytes) then Some most_before_feed
    else if nat_lt (length_before_feed bytes) (length bytes) then Some (length_before_feed bytes + 1) else None

-- the length of the first line, if these are all the bytes
unfoldable pub first_length : List ℕ → ℕ
first_length bytes =
    if nat_lt most_before_feed (length_before_feed bytes) then most_before_feed
    else if nat_lt (length_before_feed bytes) (length bytes) then length_before_feed bytes + 1 else length bytes

-- the first n lines
abbrev pub first_lines : ℕ → List ℕ → List (List ℕ)
first_lines zero bytes = []
first_lines (suc n) [] = []
first_lines (suc n) (b ∷ bytes) = take (first_length (b ∷ bytes)) (b ∷ bytes) ∷ first_lines n
    (drop (first_length (b ∷ bytes)) (b ∷ bytes))

-- the lines of bytes: the first one, and the lines of the bytes after it
unfoldable pub lines : List ℕ → List (List ℕ)
lines bytes = first_lines (length bytes) bytes

-- a line: it isn't empty, LF is at most its last byte, and it has at most 65,536 bytes before its LF
pub record IsLine (line : List ℕ) : Type 0 where
  pub some : 0 < length line
  pub last : length line ≤ length_before_feed line + 1
  pub short : length_before_feed line ≤ most_before_feed

-- each is a line, and one without LF that isn't the last has exactly 65,536 bytes and isn't followed by LF
abbrev pub AreCut : List (List ℕ) → Type 0
AreCut [] = Unit {0}
AreCut (l ∷ []) = IsLine l
AreCut (l ∷ m ∷ ls) = IsLine l × (length_before_feed l ≡ length l → (length l ≡ most_before_feed)
    × (0 < length_before_feed m)) × AreCut (m ∷ ls)

-- these are lines, and they join to the bytes
pub record AreLines (bytes : List ℕ) (ls : List (List ℕ)) : Type 0 where
  pub joined : concat ls ≡ bytes
  pub each : AreCut ls

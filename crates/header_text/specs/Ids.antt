-- The message ids of a value (RFC 5322, 3.6.4).
use Rattle.std.specs.Prelude.{ℕ, ◌+◌, Bool, false, not, ◌&&◌, ◌||◌, ◌==◌, nat_lt, List, [], ◌∷◌, length, map, filter}
use Rattle.std.specs.Prelude.{slice_range}
use Rattle.std.specs.List.{list_all}
use Rattle.contract_words.specs.Ranges.{ranges_from, passes_at}
use Rattle.contract_words.specs.Blanks.{is_blank}

-- the byte `<`
abbrev pub open_sign : ℕ
open_sign = 0x3C

-- the byte `>`
abbrev pub close_sign : ℕ
close_sign = 0x3E

-- whether there is a first byte and it is this one
abbrev pub begins_with_byte : ℕ → List ℕ → Bool
begins_with_byte c [] = false
begins_with_byte c (b ∷ bs) = b == c

-- whether a byte is neither `<` nor `>`
abbrev pub is_inside_id : ℕ → Bool
is_inside_id b = not ((b == open_sign) || (b == close_sign))

-- Whether a range of a value is an id: it is directly between a `<` and a `>`, and has neither. The range is given as
-- the bytes before it, the nearest first, those inside it, and those after it.
abbrev pub is_id_range : List ℕ → List ℕ → List ℕ → Bool
is_id_range before inside after = begins_with_byte open_sign before && list_all is_inside_id inside && begins_with_byte
    close_sign
    after

-- the ranges of a value that are ids, in order
abbrev pub id_ranges : List ℕ → List (ℕ × ℕ)
id_ranges value = filter (passes_at is_id_range value) (ranges_from 0 value)

-- whether a byte is neither a space, a tab, a CR nor an LF
abbrev pub is_id_byte : ℕ → Bool
is_id_byte b = not (is_blank b || (b == 0x0D) || (b == 0x0A))

-- texts without their spaces, tabs, CRs and LFs; if nothing is left of a text, it is left out
abbrev pub kept_ids : List (List ℕ) → List (List ℕ)
kept_ids texts = filter (λ id. nat_lt 0 (length id)) (map (filter is_id_byte) texts)

-- the ids of a value: each text between a `<` and the next `>` with neither between them, without its spaces, tabs, CRs
-- and LFs; if nothing is left of it, it is left out
unfoldable pub ids_of : List ℕ → List (List ℕ)
ids_of value = kept_ids (map (λ r. slice_range value r.0 r.1) (id_ranges value))

-- the number of bytes of ids, with the `<` and the `>` around each
abbrev pub ids_size : List (List ℕ) → ℕ
ids_size [] = 0
ids_size (id ∷ ids) = length id + 2 + ids_size ids

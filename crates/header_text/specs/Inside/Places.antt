-- Where fields are in the bytes of a list of fields.
use Rattle.std.specs.Prelude.{◌≡◌, ℕ, ◌<◌, ◌≤◌, List, [], ◌∷◌, length, slice_range}
use Rattle.header_text.specs.declared.field_list.FieldPlace.{FieldPlace}
use Rattle.header_text.specs.Headers.{HeaderField, most_in_header}

-- where the next field begins, or where the bytes end
abbrev pub next_start : List FieldPlace → ℕ → ℕ
next_start [] end = end
next_start (p ∷ ps) end = p.name

-- The places are in order. Each name has a byte or more and ends where its body begins; the body ends where the next
-- name begins, or at `end`.
abbrev pub ArePlacesInOrder : ℕ → List FieldPlace → Type 0
ArePlacesInOrder end [] = Unit {0}
ArePlacesInOrder end (p ∷ ps) = (p.name < p.body) × (p.body ≤ next_start ps end) × ArePlacesInOrder end ps

-- The fields fill the bytes from the first to the last, one after another. There are at most 262,144 bytes, and at most
-- as many fields.
pub record AreKept (bytes : List ℕ) (places : List FieldPlace) : Type 0 where
  pub order : ArePlacesInOrder (length bytes) places
  pub first : next_start places (length bytes) ≡ 0
  pub few_bytes : length bytes ≤ most_in_header
  pub few_places : length places ≤ most_in_header

-- the fields at these places
abbrev pub fields_at : List ℕ → List FieldPlace → List HeaderField
fields_at bytes [] = []
fields_at bytes (p ∷ ps) =
    record { name = slice_range bytes p.name p.body; body = slice_range bytes p.body (next_start ps (length bytes)) } ∷
    fields_at bytes ps

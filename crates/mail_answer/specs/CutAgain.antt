-- How an mbox answer is cut again into its messages.
use Rattle.std.specs.Prelude.{◌≡◌, ℕ, ◌+◌, Bool, false, ◌==◌, List, [], ◌∷◌, ◌++◌, Some, length, take, drop}
use Rattle.std.specs.List.{concat}
use Rattle.mbox_cutter.specs.Archives.{spans_of}

-- whether the last byte is CR
abbrev pub ends_in_return : List ℕ → Bool
ends_in_return [] = false
ends_in_return (b ∷ []) = b == 13
ends_in_return (b ∷ c ∷ bytes) = ends_in_return (c ∷ bytes)

-- the text is the bytes of a span of an archive
pub record IsCutOut (text : List ℕ) : Type 0 where
  pub archive : List ℕ
  pub before : List (ℕ × ℕ)
  pub here : ℕ × ℕ
  pub after : List (ℕ × ℕ)
  pub is_cut : spans_of archive ≡ Some (before ++ here ∷ after)
  pub is_text : text ≡ take here.1 (drop here.0 archive)

-- the offset and the length of each of these texts, if they are one after another from an offset on
abbrev pub places_from : ℕ → List (List ℕ) → List (ℕ × ℕ)
places_from offset [] = []
places_from offset (text ∷ texts) = (offset, length text) ∷ places_from (offset + length text) texts

-- the bytes are these texts, one after another, and cutting the bytes gives one span for each text
pub record IsCutInto (bytes : List ℕ) (texts : List (List ℕ)) : Type 0 where
  pub joined : concat texts ≡ bytes
  pub spans : spans_of bytes ≡ Some (places_from 0 texts)

-- How the bytes of an answer are sent: they are gathered, and from time to time a front of them is sent.
use Rattle.std.specs.Prelude.{◌≡◌, ℕ, ◌+◌, ◌-◌, ◌^◌, min, List, ◌++◌, length, Option, None, Some, IfSome, Result, Ok}
use Rattle.std.specs.Prelude.{Err}
use Rattle.std.specs.Io.KnownBytes.{Appends}
use Rattle.mail_answer.specs.declared.output.sheet.Sheet.{Sheet}

-- the number of bytes sent after these ones, but never more than the greatest number of u64
abbrev pub count_after : ℕ → List ℕ → ℕ
count_after before went = min (before + length went) (2 ^ 64 - 1)

-- The bytes were added to the answer: they were gathered after the others, and a front of all that is gathered was
-- sent.
pub record AddsBytes (taken taken' : Option (List ℕ)) (old new : Sheet) (bytes : List ℕ) : Type 0 where
  pub went : List ℕ
  pub gathered : old.text ++ bytes ≡ went ++ new.text
  pub appends : Appends taken taken' went
  pub count : new.sent ≡ count_after old.sent went

-- Only a front of what is gathered and these bytes was sent.
pub record JoinsFront (taken taken' : Option (List ℕ)) (old new : Sheet) (bytes : List ℕ) : Type 0 where
  pub went : List ℕ
  pub unsent : List ℕ
  pub front : old.text ++ bytes ≡ went ++ unsent
  pub appends : Appends taken taken' went
  pub count : new.sent ≡ count_after old.sent went

-- two texts, one after the other; known if both are
abbrev pub joined_texts : Option (List ℕ) → Option (List ℕ) → Option (List ℕ)
joined_texts None y = None
joined_texts (Some x) None = None
joined_texts (Some x) (Some y) = Some (x ++ y)

-- the text is the known one, if there is a known one
abbrev pub IsIfKnown : Option (List ℕ) → List ℕ → Type 0
IsIfKnown known text = IfSome known (λ k. k ≡ text)

-- A text, known or not, was added to the answer; with a fault, a front of it.
abbrev pub WritesText : {T E : Type 0} → Option (List ℕ) → Option (List ℕ) → Sheet → Sheet → Option (List ℕ)
    → Result T E
    → Type 0
WritesText taken taken' old new known (Ok _) = (text : List ℕ) × IsIfKnown known text
    × AddsBytes taken taken' old new text
WritesText taken taken' old new known (Err _) = (text : List ℕ) × IsIfKnown known text
    × JoinsFront taken taken' old new text

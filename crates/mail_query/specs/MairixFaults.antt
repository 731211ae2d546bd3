-- The first fault of mairix patterns, as a relation with one case for each rule. A text is faulty if the grammar gives
-- no query for it, and the first faulty text counts.
use Rattle.std.specs.Prelude.{◌≡◌, ◌≢◌, ℕ, ◌+◌, ◌≤◌, true, false, List, [], ◌∷◌, ◌++◌, length, codes, None}
use Rattle.std.specs.List.{All, list_any, list_all, slice_split}
use Rattle.std.specs.Char.{is_ascii_digit}
use Rattle.mail_query.specs.declared.fault.QueryFault.{QueryFault}
use Rattle.mail_query.specs.declared.fault.QueryFaultKind.{QueryFaultKind}
use Rattle.mail_query.specs.declared.fault.QueryFaultKind.TheVariants.{NoPattern, BadPrefix, BadWord, Approximate}
use Rattle.mail_query.specs.declared.fault.QueryFaultKind.TheVariants.{BadDate, BadSize, BadFlag}
use Rattle.mail_query.specs.Pieces.{is_byte}
use Rattle.mail_query.specs.Lexicon.{Lexicon}
use Rattle.mail_query.specs.Query.{Query}
use Rattle.mail_query.specs.SizeGrammar.{IsSizes}
use Rattle.mail_query.specs.FlagGrammar.{IsFlags}
use Rattle.mail_query.specs.Mairix.{Forms, plain_kinds, id_forms, word_forms}
use Rattle.mail_query.specs.MairixGrammar.{kinds_named, IsAtom, IsTerm, IsAll, AreLetters, IsPattern}

-- the first faulty text has this fault, with this many texts before it; each text before it means a query
pub data IsFirstOf (Asks : List ℕ → Query → Type 0) (Shows : List ℕ → QueryFaultKind → Type 0)
    : List (List ℕ) → ℕ → QueryFaultKind → Type 0 where
  After : (before : List (List ℕ)) (text : List ℕ) (more : List (List ℕ)) (kind : QueryFaultKind)
      → All (λ (t : List ℕ). (q : Query) × Asks t q) before
      → Shows text kind
      → IsFirstOf Asks Shows (before ++ text ∷ more) (length before) kind

-- ---- the text after a prefix

-- the text ends with an `=` and one or more digits
pub data IsApproximate : List ℕ → Type 0 where
  Digits : (front digits : List ℕ) → 1 ≤ length digits → list_all is_ascii_digit digits ≡ true
      → IsApproximate (front ++ 0x3D ∷ digits)

-- the fault of an atom: it asks for approximate matching; if it doesn't, it has none of the forms
pub data IsAtomFault (forms : Forms) : List ℕ → QueryFaultKind → Type 0 where
  AsksApproximately : (atom : List ℕ) → IsApproximate atom → IsAtomFault forms atom Approximate
  HasNoForm : (atom : List ℕ) → ¬ IsApproximate atom → ((q : Query) → ¬ IsAtom forms atom q)
      → IsAtomFault forms atom BadWord

-- the fault of a term = ["~"] atom: that of its atom
pub data IsTermFault (forms : Forms) : List ℕ → QueryFaultKind → Type 0 where
  InWanted : (atom : List ℕ) (kind : QueryFaultKind) → ((rest : List ℕ) → atom ≢ codes "~" ++ rest)
      → IsAtomFault forms atom kind
      → IsTermFault forms atom kind
  InUnwanted : (atom : List ℕ) (kind : QueryFaultKind) → IsAtomFault forms atom kind
      → IsTermFault forms (codes "~" ++ atom) kind

-- the fault of all = term *("," term): that of the first faulty term
pub data IsAllFault (forms : Forms) : List ℕ → QueryFaultKind → Type 0 where
  InTerm : (text : List ℕ) (n : ℕ) (kind : QueryFaultKind)
      → IsFirstOf (IsTerm forms) (IsTermFault forms) (slice_split (is_byte 0x2C) text) n kind
      → IsAllFault forms text kind

-- the fault of rest = all *("/" all): that of the first faulty alternative
pub data IsRestFault (forms : Forms) : List ℕ → QueryFaultKind → Type 0 where
  InAll : (text : List ℕ) (n : ℕ) (kind : QueryFaultKind)
      → IsFirstOf (IsAll forms) (IsAllFault forms) (slice_split (is_byte 0x2F) text) n kind
      → IsRestFault forms text kind

-- ---- patterns

-- prefix = letters | "m" | "d" | "z" | "F"
pub data IsPatternPrefix : List ℕ → Type 0 where
  OfKinds : (letters : List ℕ) → AreLetters letters → IsPatternPrefix letters
  OfId : IsPatternPrefix (codes "m")
  OfDate : IsPatternPrefix (codes "d")
  OfSize : IsPatternPrefix (codes "z")
  OfFlags : IsPatternPrefix (codes "F")

-- the fault of a pattern, which is cut at its first `:`: the prefix isn't known, or the text after it is faulty
pub data IsPatternFault (lexicon : Lexicon) : List ℕ → QueryFaultKind → Type 0 where
  HasNoPrefix : (name rest : List ℕ) → list_any (is_byte 0x3A) name ≡ false → ¬ IsPatternPrefix name
      → IsPatternFault lexicon (name ++ 0x3A ∷ rest) BadPrefix
  InPlain : (rest : List ℕ) (kind : QueryFaultKind) → list_any (is_byte 0x3A) rest ≡ false
      → IsRestFault (word_forms lexicon plain_kinds) rest kind
      → IsPatternFault lexicon rest kind
  InWords : (letters rest : List ℕ) (kind : QueryFaultKind) → AreLetters letters
      → IsRestFault (word_forms lexicon (kinds_named letters)) rest kind
      → IsPatternFault lexicon (letters ++ 0x3A ∷ rest) kind
  InId : (rest : List ℕ) (kind : QueryFaultKind) → IsRestFault id_forms rest kind
      → IsPatternFault lexicon (codes "m:" ++ rest) kind
  HasNoDate : (dates : List ℕ) → lexicon.dates dates ≡ None
      → IsPatternFault lexicon (codes "d:" ++ dates) BadDate
  HasNoSize : (sizes : List ℕ) → ((q : Query) → ¬ IsSizes sizes q)
      → IsPatternFault lexicon (codes "z:" ++ sizes) BadSize
  HasNoFlags : (flags : List ℕ) → ((q : Query) → ¬ IsFlags flags q)
      → IsPatternFault lexicon (codes "F:" ++ flags) BadFlag

-- the first fault of a list: it is empty, or its first faulty pattern, with its number from 1
pub data IsFirstFault (lexicon : Lexicon) : List (List ℕ) → QueryFault → Type 0 where
  HasNone : IsFirstFault lexicon [] (record { number = 1; kind = NoPattern })
  InPattern : (patterns : List (List ℕ)) (n : ℕ) (kind : QueryFaultKind)
      → IsFirstOf (IsPattern lexicon) (IsPatternFault lexicon) patterns n kind
      → IsFirstFault lexicon patterns (record { number = n + 1; kind = kind })

-- The grammar of mairix patterns, as a relation between texts and queries with one case for each production.
use Rattle.std.specs.Prelude.{◌≡◌, ℕ, ◌≤◌, ◌==◌, Bool, true, false, List, [], ◌∷◌, ◌++◌, length, codes, Some}
use Rattle.std.specs.List.{list_any, list_all}
use Rattle.std.specs.Str.{IsUtf8}
use Rattle.mail_dates.specs.declared.range.Range.{Range}
use Rattle.mail_query.specs.declared.kinds.Kinds.{Kinds}
use Rattle.mail_query.specs.Pieces.{is_byte}
use Rattle.mail_query.specs.Lexicon.{Lexicon}
use Rattle.mail_query.specs.Query.{Query, Word, Part, Prefix, Date, Not, all_of, either_of}
use Rattle.mail_query.specs.SizeGrammar.{IsSizes}
use Rattle.mail_query.specs.FlagGrammar.{IsFlags}
use Rattle.mail_query.specs.Mairix.{Forms, plain_kinds, is_sign, id_forms, word_forms}

-- ---- where a pattern looks for its words

-- whether the letter is one of these
abbrev pub is_letter_among : List ℕ → ℕ → Bool
is_letter_among letters letter = list_any (λ b. letter == b) letters

-- the kinds that the letters name: `t` To, `c` Cc, `f` From, `s` Subject, `b` body, `a` To, Cc and From, `n` names
abbrev pub kinds_named : List ℕ → Kinds
kinds_named letters = record {
  to = list_any (is_letter_among (codes "ta")) letters;
  cc = list_any (is_letter_among (codes "ca")) letters;
  bcc = false;
  from = list_any (is_letter_among (codes "fa")) letters;
  subject = list_any (is_letter_among (codes "s")) letters;
  body = list_any (is_letter_among (codes "b")) letters;
  name = list_any (is_letter_among (codes "n")) letters;
  own_id = false;
}

-- ---- the query of a text

-- one *(sign one): the texts between the signs mean these queries
pub data Separated (sign : ℕ) (Asks : List ℕ → Query → Type 0) : List ℕ → List Query → Type 0 where
  Alone : (text : List ℕ) (q : Query) → Asks text q → Separated sign Asks text (q ∷ [])
  Before : (text rest : List ℕ) (q : Query) (qs : List Query) → Asks text q → Separated sign Asks rest qs
      → Separated sign Asks (text ++ sign ∷ rest) (q ∷ qs)

-- atom = word | sub "=" | "^" sub "=": a whole word, a part of one, or the beginning of one
pub data IsAtom (forms : Forms) : List ℕ → Query → Type 0 where
  WholeWord : (word sought : List ℕ) → forms.word word ≡ Some sought → IsAtom forms word (Word forms.kinds sought)
  PartOfWord : (sub sought : List ℕ) → forms.part sub ≡ Some sought
      → IsAtom forms (sub ++ codes "=") (Part forms.kinds sought)
  FrontOfWord : (sub sought : List ℕ) → forms.part sub ≡ Some sought
      → IsAtom forms (codes "^" ++ (sub ++ codes "=")) (Prefix forms.kinds sought)

-- term = ["~"] atom: a `~` negates the atom
pub data IsTerm (forms : Forms) : List ℕ → Query → Type 0 where
  Wanted : (atom : List ℕ) (q : Query) → IsAtom forms atom q → IsTerm forms atom q
  Unwanted : (atom : List ℕ) (q : Query) → IsAtom forms atom q → IsTerm forms (codes "~" ++ atom) (Not q)

-- all = term *("," term): all of the terms
pub data IsAll (forms : Forms) : List ℕ → Query → Type 0 where
  EachTerm : (text : List ℕ) (qs : List Query) → Separated 0x2C (IsTerm forms) text qs → IsAll forms text (all_of qs)

-- rest = all *("/" all): any of the alternatives
pub data IsRest (forms : Forms) : List ℕ → Query → Type 0 where
  SomeAll : (text : List ℕ) (qs : List Query) → Separated 0x2F (IsAll forms) text qs → IsRest forms text (either_of qs)

-- letters = 1*("t" / "c" / "f" / "s" / "b" / "a" / "n")
pub record AreLetters (text : List ℕ) : Type 0 where
  pub some : 1 ≤ length text
  pub letters : list_all (is_letter_among (codes "tcfsban")) text ≡ true

-- pattern = rest | letters ":" rest | "m:" rest | "d:" dates | "z:" sizes | "F:" flags; a rest alone has no `:`
pub data IsPattern (lexicon : Lexicon) : List ℕ → Query → Type 0 where
  Plain : (rest : List ℕ) (q : Query) → list_any (is_byte 0x3A) rest ≡ false
      → IsRest (word_forms lexicon plain_kinds) rest q → IsPattern lexicon rest q
  InKinds : (letters rest : List ℕ) (q : Query) → AreLetters letters
      → IsRest (word_forms lexicon (kinds_named letters)) rest q → IsPattern lexicon (letters ++ 0x3A ∷ rest) q
  OfId : (rest : List ℕ) (q : Query) → IsRest id_forms rest q → IsPattern lexicon (codes "m:" ++ rest) q
  OfDate : (dates : List ℕ) (range : Range) → lexicon.dates dates ≡ Some range
      → IsPattern lexicon (codes "d:" ++ dates) (Date range)
  OfSize : (sizes : List ℕ) (q : Query) → IsSizes sizes q → IsPattern lexicon (codes "z:" ++ sizes) q
  OfFlags : (flags : List ℕ) (q : Query) → IsFlags flags q → IsPattern lexicon (codes "F:" ++ flags) q

-- one or more patterns, one after another, mean these queries
pub data ArePatterns (lexicon : Lexicon) : List (List ℕ) → List Query → Type 0 where
  Only : (pattern : List ℕ) (q : Query) → IsPattern lexicon pattern q → ArePatterns lexicon (pattern ∷ []) (q ∷ [])
  AndAlso : (pattern : List ℕ) (patterns : List (List ℕ)) (q : Query) (qs : List Query) → IsPattern lexicon pattern q
      → ArePatterns lexicon patterns qs
      → ArePatterns lexicon (pattern ∷ patterns) (q ∷ qs)

-- a list of patterns asks for all of them
pub data IsAsked (lexicon : Lexicon) : List (List ℕ) → Query → Type 0 where
  EachPattern : (patterns : List (List ℕ)) (qs : List Query) → ArePatterns lexicon patterns qs
      → IsAsked lexicon patterns (all_of qs)

-- the grammar gives no query: a text in the list is no pattern, or the list is empty
abbrev pub AskNothing : Lexicon → List (List ℕ) → Type 0
AskNothing lexicon patterns = (q : Query) → IsAsked lexicon patterns q → ⊥

-- no word, and no text that can be a part of one, has a byte with a meaning in patterns
pub record HasNoSigns (lexicon : Lexicon) : Type 0 where
  pub words : (text : List ℕ) → IsUtf8 text → lexicon.is_word text ≡ true → list_any is_sign text ≡ false
  pub pieces : (text : List ℕ) → IsUtf8 text → lexicon.is_piece text ≡ true → list_any is_sign text ≡ false

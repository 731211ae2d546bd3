-- The query that a list of mairix patterns means, or the first fault in it.
use Rattle.std.specs.Prelude.{ℕ, ◌+◌, ◌==◌, Bool, true, false, not, ◌&&◌, ◌||◌, List, [], ◌∷◌, bytes_eq, codes, Option}
use Rattle.std.specs.Prelude.{Some, None, Result, Ok, Err, ok_or, if◌then◌else◌, option_map, option_and_then}
use Rattle.std.specs.List.{list_any, list_all, slice_split}
use Rattle.std.specs.Option.{option_or}
use Rattle.std.specs.Char.{is_ascii_digit}
use Rattle.contract_words.specs.Answers.{◌>>=◌, with_front, fault_as}
use Rattle.mail_dates.specs.declared.range.Range.{Range}
use Rattle.mail_query.specs.declared.kinds.Kinds.{Kinds}
use Rattle.mail_query.specs.declared.fault.QueryFault.{QueryFault}
use Rattle.mail_query.specs.declared.fault.QueryFaultKind.{QueryFaultKind}
use Rattle.mail_query.specs.declared.fault.QueryFaultKind.TheVariants.{NoPattern, BadPrefix, BadWord, Approximate}
use Rattle.mail_query.specs.declared.fault.QueryFaultKind.TheVariants.{BadDate, BadSize, BadFlag}
use Rattle.mail_query.specs.Kinds.{no_kinds, union}
use Rattle.mail_query.specs.Pieces.{is_byte, texts_around, without_first, without_last, without_angles, is_nonempty}
use Rattle.mail_query.specs.Lexicon.{Lexicon}
use Rattle.mail_query.specs.Query.{Query, Word, Part, Prefix, Date, Not, all_of, either_of}
use Rattle.mail_query.specs.Sizes.{sizes_of}
use Rattle.mail_query.specs.Flags.{flags_of_text}

-- ---- where a pattern looks for its words

-- where a word without a prefix is looked for: in all kinds of text but blind copies and names of attachments
abbrev pub plain_kinds : Kinds
plain_kinds = record no_kinds { to = true; cc = true; from = true; subject = true; body = true }

-- the kinds that a letter names: `t` To, `c` Cc, `f` From, `s` Subject, `b` body, `a` To, Cc and From, `n` names
abbrev pub kinds_of_letter : ℕ → Option Kinds
kinds_of_letter letter =
    if letter == 0x74 then Some (record no_kinds { to = true })
    else (if letter == 0x63 then Some (record no_kinds { cc = true })
    else (if letter == 0x66 then Some (record no_kinds { from = true })
    else (if letter == 0x73 then Some (record no_kinds { subject = true })
    else (if letter == 0x62 then Some (record no_kinds { body = true })
    else (if letter == 0x61 then Some (record no_kinds { to = true; cc = true; from = true })
    else (if letter == 0x6E then Some (record no_kinds { name = true })
    else None))))))

-- these kinds and those of the letters; None if a letter names nothing
abbrev pub kinds_with : Kinds → List ℕ → Option Kinds
kinds_with kinds [] = Some kinds
kinds_with kinds (letter ∷ letters) = option_and_then (λ more. kinds_with (union kinds more) letters)
    (kinds_of_letter letter)

-- the kinds that one or more letters name
abbrev pub kinds_of : List ℕ → Option Kinds
kinds_of [] = None
kinds_of (letter ∷ letters) = kinds_with no_kinds (letter ∷ letters)

-- ---- the forms of words

-- where to look for words, and the text to look for, given a whole word or a part of one; None for any other text
pub record Forms : Type 0 where
  pub kinds : Kinds
  pub word : List ℕ → Option (List ℕ)
  pub part : List ℕ → Option (List ℕ)

-- whether a byte has a meaning in patterns
abbrev pub is_sign : ℕ → Bool
is_sign b = list_any (is_byte b) (codes "~,/=^")

-- whether a text can be an id: it isn't empty, and no byte has a meaning in patterns
abbrev pub may_be_id : List ℕ → Bool
may_be_id text = is_nonempty text && not (list_any is_sign text)

-- the text, if the test passes
abbrev pub some_if : Bool → List ℕ → Option (List ℕ)
some_if passes text = if passes then Some text else None

-- an id is looked for as written; a whole one may have `<` and `>` around it
abbrev pub id_forms : Forms
id_forms = record {
  kinds = record no_kinds { own_id = true };
  word = λ text. some_if (may_be_id text && is_nonempty (without_angles text)) (without_angles text);
  part = λ text. some_if (may_be_id text) text;
}

-- whether the text after the last `=` is one or more digits
abbrev pub is_approximate : List ℕ → Bool
is_approximate [] = false
is_approximate (b ∷ bs) = ((b == 0x3D) && (is_nonempty bs && list_all is_ascii_digit bs)) || is_approximate bs

-- the queries of the texts, or the first fault
abbrev pub each_read : (List ℕ → Result Query QueryFaultKind) → List (List ℕ) → Result (List Query) QueryFaultKind
each_read read [] = Ok []
each_read read (text ∷ texts) = read text >>= (λ q. with_front (q ∷ []) (each_read read texts))

module _ (forms : Forms) where
  -- a whole word, if the text is one
  abbrev pub word_query : List ℕ → Option Query
  word_query text = option_map (λ word. Word forms.kinds word) (forms.word text)

  -- a word that contains the text, if it can be a part of one
  abbrev pub part_query : List ℕ → Option Query
  part_query sub = option_map (λ part. Part forms.kinds part) (forms.part sub)

  -- a word that begins with the text, if it can be a part of one
  abbrev pub prefix_query : List ℕ → Option Query
  prefix_query sub = option_map (λ part. Prefix forms.kinds part) (forms.part sub)

  -- the text before an `=` at the end: sub | "^" sub
  abbrev pub marked_query : List ℕ → Option Query
  marked_query sub = option_or (part_query sub) (option_and_then prefix_query (without_first 0x5E sub))

  -- a whole word; if the text isn't one, what an `=` at its end makes of it
  abbrev pub found_query : List ℕ → Option Query
  found_query text = option_or (word_query text) (option_and_then marked_query (without_last 0x3D text))

  -- atom = word | sub "=" | "^" sub "="; an atom that asks for approximate matching is refused
  abbrev pub atom_query : List ℕ → Result Query QueryFaultKind
  atom_query text = if is_approximate text then Err Approximate else ok_or (found_query text) BadWord

  -- term = ["~"] atom: a `~` negates the atom
  abbrev pub term_query : List ℕ → Result Query QueryFaultKind
  term_query text = elim (without_first 0x7E text) [
    | None ↦ atom_query text
    | Some atom ↦ atom_query atom >>= (λ q. Ok (Not q))
  ]

  -- all = term *("," term): all of the terms
  abbrev pub all_query : List ℕ → Result Query QueryFaultKind
  all_query text = each_read term_query (slice_split (is_byte 0x2C) text) >>= (λ qs. Ok (all_of qs))

  -- rest = all *("/" all): any of the alternatives
  abbrev pub rest_query : List ℕ → Result Query QueryFaultKind
  rest_query text = each_read all_query (slice_split (is_byte 0x2F) text) >>= (λ qs. Ok (either_of qs))

-- ---- dates, sizes and flags

-- a message with a date in this range; None is a bad date
abbrev pub date_query : Option Range → Result Query QueryFaultKind
date_query dates = ok_or (option_map Date dates) BadDate

-- a message with a size that the text names
abbrev pub size_query : List ℕ → Result Query QueryFaultKind
size_query text = ok_or (sizes_of text) BadSize

-- a message with the flags that the text names
abbrev pub flags_query : List ℕ → Result Query QueryFaultKind
flags_query text = ok_or (flags_of_text text) BadFlag

-- ---- patterns

module _ (lexicon : Lexicon) where
  -- words are looked for in texts of these kinds, with case folded
  abbrev pub word_forms : Kinds → Forms
  word_forms kinds = record {
    kinds = kinds;
    word = λ text. some_if (lexicon.is_word text) (lexicon.folded text);
    part = λ text. some_if (lexicon.is_piece text) (lexicon.folded text);
  }

  -- the query of a prefix and the text after its colon
  abbrev pub prefixed_query : List ℕ → List ℕ → Result Query QueryFaultKind
  prefixed_query prefix rest =
      if bytes_eq prefix (codes "m") then rest_query id_forms rest
      else (if bytes_eq prefix (codes "d") then date_query (lexicon.dates rest)
      else (if bytes_eq prefix (codes "z") then size_query rest
      else (if bytes_eq prefix (codes "F") then flags_query rest
      else elim (kinds_of prefix) [ None ↦ Err BadPrefix | Some kinds ↦ rest_query (word_forms kinds) rest ])))

  -- the query of a pattern, which is cut at its first colon; without a colon it has no prefix
  abbrev pub pattern_query : List ℕ → Result Query QueryFaultKind
  pattern_query text = elim (texts_around 0x3A text) [
    | None ↦ rest_query (word_forms plain_kinds) text
    | Some p ↦ prefixed_query p.0 p.1
  ]

  -- the queries of the patterns from number n on, or the first fault with its pattern's number
  abbrev pub patterns_from : ℕ → List (List ℕ) → Result (List Query) QueryFault
  patterns_from n [] = Ok []
  patterns_from n (pattern ∷ patterns) =
      fault_as (λ kind. record { number = n; kind = kind }) (pattern_query pattern)
      >>= (λ q. with_front (q ∷ []) (patterns_from (n + 1) patterns))

  -- all of the patterns; an empty list is refused
  abbrev pub patterns_query : List (List ℕ) → Result Query QueryFault
  patterns_query [] = Err (record { number = 1; kind = NoPattern })
  patterns_query (pattern ∷ patterns) = patterns_from 1 (pattern ∷ patterns) >>= (λ qs. Ok (all_of qs))

-- The query that a term of a boolean query means, or its fault.
use Rattle.std.specs.Prelude.{ℕ, Bool, true, false, List, [], ◌∷◌, bytes_eq, codes, Option, Some, None, Result, Ok, Err}
use Rattle.std.specs.Prelude.{if◌then◌else◌, option_map}
use Rattle.std.specs.List.{list_any}
use Rattle.std.specs.Str.{str_eq_ignore_ascii_case}
use Rattle.mail_query.specs.declared.boolean.field.Field.{Field}
use Rattle.mail_query.specs.declared.boolean.field.Field.TheVariants as field
use Rattle.mail_query.specs.declared.boolean.field.Fields.{Fields}
use Rattle.mail_query.specs.declared.kinds.Kinds.{Kinds}
use Rattle.mail_query.specs.declared.fault.QueryFaultKind.{QueryFaultKind}
use Rattle.mail_query.specs.declared.fault.QueryFaultKind.TheVariants.{BadPrefix, BadWord, MissingTerm, Phrase}
use Rattle.mail_query.specs.Kinds.{no_kinds}
use Rattle.mail_query.specs.Pieces.{is_byte, texts_around, without_last, without_angles}
use Rattle.mail_query.specs.Lexicon.{Lexicon}
use Rattle.mail_query.specs.Query.{Query, Any, Word, Prefix}
use Rattle.mail_query.specs.Mairix.{date_query}

-- ---- the prefixes

-- the prefix with this name, in lower case
abbrev pub field_of : List ℕ → Option Field
field_of name =
    if bytes_eq name (codes "from") then Some field.From
    else (if bytes_eq name (codes "to") then Some field.To
    else (if bytes_eq name (codes "subject") then Some field.Subject
    else (if bytes_eq name (codes "body") then Some field.Body
    else (if bytes_eq name (codes "id") then Some field.Id
    else (if bytes_eq name (codes "date") then Some field.Date
    else None)))))

-- a term's prefix, if it has one, and the text after it
pub record TermParts : Type 0 where
  pub prefix : Option Field
  pub rest : List ℕ

-- a term's parts: the prefix ends at the first colon; if the language has no such prefix, there are none
abbrev pub parts_of : List ℕ → Option TermParts
parts_of term = elim (texts_around 0x3A term) [
  | None ↦ Some (record { prefix = None; rest = term })
  | Some p ↦ option_map (λ f. record { prefix = Some f; rest = p.1 }) (field_of p.0)
]

-- ---- sets of prefixes

-- the empty set
abbrev pub no_fields : Fields
no_fields = record { from = false; to = false; subject = false; body = false; id = false; date = false }

-- whether there is a prefix and it is in the set
abbrev pub has_field : Fields → Option Field → Bool
has_field fields None = false
has_field fields (Some field.From) = fields.from
has_field fields (Some field.To) = fields.to
has_field fields (Some field.Subject) = fields.subject
has_field fields (Some field.Body) = fields.body
has_field fields (Some field.Id) = fields.id
has_field fields (Some field.Date) = fields.date

-- the set with the prefix added, if there is one
abbrev pub with_field : Option Field → Fields → Fields
with_field None fields = fields
with_field (Some field.From) fields = record fields { from = true }
with_field (Some field.To) fields = record fields { to = true }
with_field (Some field.Subject) fields = record fields { subject = true }
with_field (Some field.Body) fields = record fields { body = true }
with_field (Some field.Id) fields = record fields { id = true }
with_field (Some field.Date) fields = record fields { date = true }

-- ---- the query of a term

-- where a term without a prefix is looked for: in all kinds of text but names of attachments
abbrev pub bare_kinds : Kinds
bare_kinds = record no_kinds { to = true; cc = true; bcc = true; from = true; subject = true; body = true }

-- whether a term has a `"`
abbrev pub is_phrase : List ℕ → Bool
is_phrase term = list_any (is_byte 0x22) term

-- the message with this id; the id isn't empty
abbrev pub id_query : List ℕ → Result Query QueryFaultKind
id_query [] = Err MissingTerm
id_query (b ∷ bs) = Ok (Word (record no_kinds { own_id = true }) (b ∷ bs))

module _ (lexicon : Lexicon) where
  -- a word that begins with this text, if there is a text and it can be a part of a word
  abbrev pub piece_query : Kinds → Option (List ℕ) → Result Query QueryFaultKind
  piece_query kinds None = Err BadWord
  piece_query kinds (Some piece) = if lexicon.is_piece piece then Ok (Prefix kinds (lexicon.folded piece))
      else Err BadWord

  -- a whole word, or the beginning of one, with a `*` after it
  abbrev pub boolean_word_query : Kinds → List ℕ → Result Query QueryFaultKind
  boolean_word_query kinds text =
      if lexicon.is_word text then Ok (Word kinds (lexicon.folded text)) else piece_query kinds (without_last 0x2A text)

  -- the query of a prefix and the text after it
  abbrev pub field_query : Field → List ℕ → Result Query QueryFaultKind
  field_query field.From rest = boolean_word_query (record no_kinds { from = true }) rest
  field_query field.To rest = boolean_word_query (record no_kinds { to = true; cc = true; bcc = true }) rest
  field_query field.Subject rest = boolean_word_query (record no_kinds { subject = true }) rest
  field_query field.Body rest = boolean_word_query (record no_kinds { body = true }) rest
  field_query field.Id rest = id_query (without_angles rest)
  field_query field.Date rest = date_query (lexicon.dates rest)

  -- the query of a term without a prefix: `*` is every message, and `xor` in any case is refused
  abbrev pub bare_query : List ℕ → Result Query QueryFaultKind
  bare_query term =
      if bytes_eq term (codes "*") then Ok Any
      else (if str_eq_ignore_ascii_case term (codes "xor") then Err BadWord else boolean_word_query bare_kinds term)

  -- the query of a term by its parts; some text must follow a prefix
  abbrev pub parts_query : Option Field → List ℕ → Result Query QueryFaultKind
  parts_query None term = bare_query term
  parts_query (Some f) [] = Err MissingTerm
  parts_query (Some f) (b ∷ bs) = field_query f (b ∷ bs)

  -- the query of these parts; None has a prefix that isn't known
  abbrev pub cut_query : Option TermParts → Result Query QueryFaultKind
  cut_query None = Err BadPrefix
  cut_query (Some parts) = parts_query parts.prefix parts.rest

  -- the query of a term, or its fault
  abbrev pub boolean_term_query : List ℕ → Result Query QueryFaultKind
  boolean_term_query term = if is_phrase term then Err Phrase else cut_query (parts_of term)

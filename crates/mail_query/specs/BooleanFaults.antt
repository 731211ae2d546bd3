-- The first fault of a boolean query, found from the tokens before each place.
use Rattle.std.specs.Prelude.{ℕ, zero, suc, ◌+◌, ◌==◌, Bool, true, false, not, ◌&&◌, nat_le, List, [], ◌∷◌, Option}
use Rattle.std.specs.Prelude.{Some, None, Result, Ok, Err, if◌then◌else◌}
use Rattle.mail_query.specs.declared.boolean.field.Field.{Field}
use Rattle.mail_query.specs.declared.boolean.field.Fields.{Fields}
use Rattle.mail_query.specs.declared.fault.QueryFault.{QueryFault}
use Rattle.mail_query.specs.declared.fault.QueryFaultKind.{QueryFaultKind}
use Rattle.mail_query.specs.declared.fault.QueryFaultKind.TheVariants.{NoPattern, BadPrefix, NeedsOperator}
use Rattle.mail_query.specs.declared.fault.QueryFaultKind.TheVariants.{BadParenthesis, MissingTerm, TooDeep, Phrase}
use Rattle.mail_query.specs.Lexicon.{Lexicon}
use Rattle.mail_query.specs.Query.{Query}
use Rattle.mail_query.specs.Tokens.{Token, Open, Close, AndSign, OrSign, NotSign, Term}
use Rattle.mail_query.specs.BooleanTerms.{TermParts, parts_of, no_fields, has_field, with_field, is_phrase, parts_query}
use Rattle.mail_query.specs.BooleanGrammar.{term_prefix}

-- ---- what the tokens before a place say; the nearest comes first

-- whether a term, a `not` or a `(` must come at this place
abbrev pub is_wanted : List Token → Bool
is_wanted [] = true
is_wanted (Close ∷ back) = false
is_wanted (Term t ∷ back) = false
is_wanted (_ ∷ back) = true

-- How many `(` have no `)` yet, going back from a place. `closed` counts each `)` that was passed and whose `(` hasn't
-- come yet.
abbrev pub open_count : ℕ → List Token → ℕ
open_count closed [] = 0
open_count closed (Close ∷ back) = open_count (suc closed) back
open_count zero (Open ∷ back) = suc (open_count zero back)
open_count (suc closed) (Open ∷ back) = open_count closed back
open_count closed (_ ∷ back) = open_count closed back

-- How many `(` and `not` are open, going back from a place. A `not` is open if it is directly before the place, or
-- directly before an open `not` or `(`, as `follows` says. `closed` is as above.
abbrev pub waiting_count : Bool → ℕ → List Token → ℕ
waiting_count follows closed [] = 0
waiting_count follows closed (Close ∷ back) = waiting_count false (suc closed) back
waiting_count follows zero (Open ∷ back) = suc (waiting_count true zero back)
waiting_count follows (suc closed) (Open ∷ back) = waiting_count false closed back
waiting_count true zero (NotSign ∷ back) = suc (waiting_count true zero back)
waiting_count follows closed (_ ∷ back) = waiting_count false closed back

-- whether the token before this place is a `not`
abbrev pub is_not : List Token → Bool
is_not (NotSign ∷ back) = true
is_not _ = false

-- the prefixes of the plain terms between the last operator, or `(`, and this place; a term after a `not` isn't plain
abbrev pub fields_before : ℕ → List Token → Fields
fields_before closed [] = no_fields
fields_before closed (Close ∷ back) = fields_before (suc closed) back
fields_before (suc closed) (Open ∷ back) = fields_before closed back
fields_before (suc closed) (_ ∷ back) = fields_before (suc closed) back
fields_before zero (Term t ∷ back) = with_field (if is_not back then None else term_prefix t) (fields_before zero back)
fields_before zero (NotSign ∷ back) = fields_before zero back
fields_before zero (_ ∷ back) = no_fields

-- Whether a term with this prefix needs an operator before it. It does if a plain term since the last operator has the
-- same prefix, unless it is directly after a `not`.
abbrev pub needs_operator : List Token → Option Field → Bool
needs_operator back prefix = not (is_not back) && has_field (fields_before zero back) prefix

-- ---- the fault of the next token

-- the fault of a result, if it is an error
abbrev pub err_of : Result Query QueryFaultKind → Option QueryFaultKind
err_of (Ok q) = None
err_of (Err kind) = Some kind

-- the fault of a `(` or a `not`: 30 are open already
abbrev pub deep_fault : List Token → Option QueryFaultKind
deep_fault back = if nat_le 30 (waiting_count true zero back) then Some TooDeep else None

-- the fault of `and` or `or`: a term must come instead
abbrev pub operator_fault : List Token → Option QueryFaultKind
operator_fault back = if is_wanted back then Some MissingTerm else None

-- the fault of a `)`: no `(` is open, or a term must come instead
abbrev pub close_fault : List Token → Option QueryFaultKind
close_fault back =
    if open_count zero back == 0 then Some BadParenthesis else (if is_wanted back then Some MissingTerm else None)

-- the fault of the end: a term must come instead, or a `(` is still open
abbrev pub end_fault : List Token → Option QueryFaultKind
end_fault back =
    if is_wanted back then Some MissingTerm else (if open_count zero back == 0 then None else Some BadParenthesis)

-- what f makes of the first option; if it is None, the second option
abbrev pub first_some : {A B : Type 0} → (A → B) → Option A → Option B → Option B
first_some f None o = o
first_some f (Some x) o = Some (f x)

module _ (lexicon : Lexicon) where
  -- the fault of a term by its parts: it has an unknown prefix, needs an operator, or is no term of its prefix
  abbrev pub parts_fault : List Token → Option TermParts → Option QueryFaultKind
  parts_fault back None = Some BadPrefix
  parts_fault back (Some parts) =
      if needs_operator back parts.prefix then Some NeedsOperator
      else err_of (parts_query lexicon parts.prefix parts.rest)

  -- the fault of a term after these tokens: it has a `"`, or its parts are faulty
  abbrev pub term_fault : List Token → List ℕ → Option QueryFaultKind
  term_fault back t = if is_phrase t then Some Phrase else parts_fault back (parts_of t)

  -- the fault of a token after these
  abbrev pub token_fault : List Token → Token → Option QueryFaultKind
  token_fault back (Term t) = term_fault back t
  token_fault back NotSign = deep_fault back
  token_fault back Open = deep_fault back
  token_fault back Close = close_fault back
  token_fault back AndSign = operator_fault back
  token_fault back OrSign = operator_fault back

  -- the first fault from token number n on; the end counts as a token
  abbrev pub first_fault_from : ℕ → List Token → List Token → Option QueryFault
  first_fault_from n back [] = first_some (λ kind. record { number = n; kind = kind }) (end_fault back) None
  first_fault_from n back (t ∷ ts) =
      first_some (λ kind. record { number = n; kind = kind }) (token_fault back t)
      (first_fault_from (n + 1) (t ∷ back) ts)

  -- the first fault of a query, if it has any; without tokens it is NoPattern
  abbrev pub first_fault : List Token → Option QueryFault
  first_fault [] = Some (record { number = 1; kind = NoPattern })
  first_fault (t ∷ ts) = first_fault_from 1 [] (t ∷ ts)

-- What the boolean reader returns, token by token. The laws compare it with the grammar and with the first fault.
use Rattle.std.specs.Prelude.{ℕ, ◌+◌, Bool, true, false, not, ◌&&◌, nat_le, List, [], ◌∷◌, ◌++◌, length, Option, Some}
use Rattle.std.specs.Prelude.{None, Result, Ok, Err, if◌then◌else◌}
use Rattle.contract_words.specs.Answers.{◌>>=◌, fault_as}
use Rattle.mail_query.specs.declared.boolean.field.Field.{Field}
use Rattle.mail_query.specs.declared.boolean.field.Fields.{Fields}
use Rattle.mail_query.specs.declared.fault.QueryFault.{QueryFault}
use Rattle.mail_query.specs.declared.fault.QueryFaultKind.{QueryFaultKind}
use Rattle.mail_query.specs.declared.fault.QueryFaultKind.TheVariants.{NoPattern, BadPrefix, NeedsOperator}
use Rattle.mail_query.specs.declared.fault.QueryFaultKind.TheVariants.{BadParenthesis, MissingTerm, TooDeep, Phrase}
use Rattle.mail_query.specs.Lexicon.{Lexicon}
use Rattle.mail_query.specs.Query.{Query, Not, all_of, either_of}
use Rattle.mail_query.specs.Tokens.{Token, Open, Close, AndSign, OrSign, NotSign, Term}
use Rattle.mail_query.specs.BooleanTerms.{TermParts, parts_of, no_fields, has_field, with_field, is_phrase, parts_query}

-- A group so far: the alternatives that an `or` ended, and the members of the last one. `seen` has the prefixes of the
-- plain terms since the last operator.
pub record Level : Type 0 where
  pub eaches : List Query
  pub members : List Query
  pub seen : Fields

-- what is open: a `not` without its operand yet, or a `(`, with the group around it
pub data Waiting : Type 0 where
  ForNot : Waiting
  ForClose : Level → Waiting

-- how far the reader is: all that is open, the innermost first; the innermost group; and whether a term must come next
pub record State : Type 0 where
  pub waiting : List Waiting
  pub level : Level
  pub wanted : Bool

-- a group with nothing in it yet
abbrev pub empty_level : Level
empty_level = record { eaches = []; members = []; seen = no_fields }

-- the state before the first token
abbrev pub start : State
start = record { waiting = []; level = empty_level; wanted = true }

-- the query of a whole group: any of its alternatives
abbrev pub level_query : Level → Query
level_query level = either_of (level.eaches ++ all_of level.members ∷ [])

-- a group with one more member
abbrev pub with_member : Level → Query → Level
with_member level q = record level { members = level.members ++ q ∷ [] }

-- a group after an `and`: a term after it may have any prefix
abbrev pub run_ended : Level → Level
run_ended level = record level { seen = no_fields }

-- a group after an `or`: its last alternative is ended
abbrev pub each_ended : Level → Level
each_ended level = record { eaches = level.eaches ++ all_of level.members ∷ []; members = []; seen = no_fields }

-- a group that has seen a term's prefix; a term after a `not` isn't plain, and isn't seen
abbrev pub level_with_prefix : Bool → Option Field → Level → Level
level_with_prefix negated prefix level =
    record level { seen = with_field (if negated then None else prefix) level.seen }

-- whether the innermost open item is a `not`
abbrev pub is_negated : List Waiting → Bool
is_negated (ForNot ∷ waiting) = true
is_negated _ = false

-- whether a `(` is open
abbrev pub has_open : List Waiting → Bool
has_open [] = false
has_open (ForClose level ∷ waiting) = true
has_open (ForNot ∷ waiting) = has_open waiting

-- the state after an operand, negated by each `not` directly before it
abbrev pub state_after_operand : List Waiting → Level → Query → State
state_after_operand [] level q = record { waiting = []; level = with_member level q; wanted = false }
state_after_operand (ForNot ∷ waiting) level q = state_after_operand waiting level (Not q)
state_after_operand (ForClose outer ∷ waiting) level q =
    record { waiting = ForClose outer ∷ waiting; level = with_member level q; wanted = false }

-- the state with one more `(` or `not` open, if fewer than 30 are
abbrev pub deeper : List Waiting → Waiting → Level → Result State QueryFaultKind
deeper waiting what level =
    if nat_le 30 (length waiting) then Err TooDeep
    else Ok (record { waiting = what ∷ waiting; level = level; wanted = true })

-- the state after an `and`
abbrev pub state_after_and : State → Result State QueryFaultKind
state_after_and s = if s.wanted then Err MissingTerm
    else Ok (record { waiting = s.waiting; level = run_ended s.level; wanted = true })

-- the state after an `or`
abbrev pub state_after_or : State → Result State QueryFaultKind
state_after_or s =
    if s.wanted then Err MissingTerm
    else Ok (record { waiting = s.waiting; level = each_ended s.level; wanted = true })

-- the state after a `)` that closes this group; the innermost open item has to be its `(`
abbrev pub state_after_group : List Waiting → Level → Result State QueryFaultKind
state_after_group (ForClose outer ∷ waiting) level = Ok (state_after_operand waiting outer (level_query level))
state_after_group _ level = Err BadParenthesis

-- the state after a `)`
abbrev pub state_after_close : State → Result State QueryFaultKind
state_after_close s =
    if s.wanted then (if has_open s.waiting then Err MissingTerm else Err BadParenthesis)
    else state_after_group s.waiting s.level

-- the query of all tokens, if they can end here
abbrev pub query_at_end : State → Result Query QueryFaultKind
query_at_end s =
    if s.wanted then Err MissingTerm else (if has_open s.waiting then Err BadParenthesis else Ok (level_query s.level))

module _ (lexicon : Lexicon) where
  -- the state after a term with this prefix and rest
  abbrev pub cut_term_step : State → Option Field → List ℕ → Result State QueryFaultKind
  cut_term_step s prefix rest =
      if not (is_negated s.waiting) && has_field s.level.seen prefix then Err NeedsOperator
      else (parts_query lexicon prefix rest >>=
      (λ q. Ok (state_after_operand s.waiting (level_with_prefix (is_negated s.waiting) prefix s.level) q)))

  -- the state after a term with these parts; None has a prefix that isn't known
  abbrev pub parts_step : State → Option TermParts → Result State QueryFaultKind
  parts_step s None = Err BadPrefix
  parts_step s (Some parts) = cut_term_step s parts.prefix parts.rest

  -- the state after a term
  abbrev pub term_step : State → List ℕ → Result State QueryFaultKind
  term_step s t = if is_phrase t then Err Phrase else parts_step s (parts_of t)

  -- the state after one more token, or its fault
  abbrev pub step : State → Token → Result State QueryFaultKind
  step s (Term t) = term_step s t
  step s NotSign = deeper s.waiting ForNot s.level
  step s Open = deeper s.waiting (ForClose s.level) empty_level
  step s Close = state_after_close s
  step s AndSign = state_after_and s
  step s OrSign = state_after_or s

  -- the query after the tokens from number n on, or the first fault
  abbrev pub run_from : ℕ → State → List Token → Result Query QueryFault
  run_from n s [] = fault_as (λ kind. record { number = n; kind = kind }) (query_at_end s)
  run_from n s (t ∷ ts) = fault_as (λ kind. record { number = n; kind = kind }) (step s t) >>=
      (λ next. run_from (n + 1) next ts)

  -- the query of all tokens, or the first fault; without tokens it is NoPattern
  abbrev pub tokens_query : List Token → Result Query QueryFault
  tokens_query [] = Err (record { number = 1; kind = NoPattern })
  tokens_query (t ∷ ts) = run_from 1 start (t ∷ ts)

-- The values of the boolean reader, as the definitions of its steps name them.
use Rattle.std.specs.Prelude.{ℕ, suc, ◌==◌, ◌||◌, Bool, List, [], ◌∷◌, if◌then◌else◌}
use Rattle.mail_query.specs.declared.boolean.token.Token.{Token as CodeToken}
use Rattle.mail_query.specs.declared.boolean.token.Token.TheVariants as code
use Rattle.mail_query.specs.declared.boolean.reader.Level.{Level as CodeLevel}
use Rattle.mail_query.specs.declared.boolean.reader.Waiting.{Waiting as CodeWaiting}
use Rattle.mail_query.specs.declared.boolean.reader.Waiting.TheVariants as code_waiting
use Rattle.mail_query.specs.declared.boolean.reader.Reader.{Reader}
use Rattle.mail_query.specs.Query.{queries_of}
use Rattle.mail_query.specs.BooleanReading.{Level, Waiting, ForNot, ForClose, State}
use Rattle.mail_query.specs.Tokens.{Token, Open, Close, AndSign, OrSign, NotSign, Term, is_blank_or_feed}

-- a token
abbrev pub shown_token : CodeToken → Token
shown_token code.Open = Open
shown_token code.Close = Close
shown_token code.And = AndSign
shown_token code.Or = OrSign
shown_token code.Not = NotSign
shown_token (code.Term text) = Term text.now

-- the number of blanks at the front
abbrev pub blank_count : List ℕ → ℕ
blank_count [] = 0
blank_count (b ∷ bs) = if is_blank_or_feed b then suc (blank_count bs) else 0

-- whether a byte ends a run: a blank or a parenthesis
abbrev pub ends_run : ℕ → Bool
ends_run b = is_blank_or_feed b || ((b == 0x28) || (b == 0x29))

-- the number of bytes before the first blank or parenthesis
abbrev pub run_length : List ℕ → ℕ
run_length [] = 0
run_length (b ∷ bs) = if ends_run b then 0 else suc (run_length bs)

-- ---- the reader

-- a group so far
abbrev pub shown_level : CodeLevel → Level
shown_level level = record {
  eaches = queries_of level.eaches.items;
  members = queries_of level.members.items;
  seen =
      level.seen;
}

-- an open `not` or `(`
abbrev pub shown_waiting : CodeWaiting → Waiting
shown_waiting code_waiting.ForNot = ForNot
shown_waiting (code_waiting.ForClose level) = ForClose (shown_level level)

-- what is open, the innermost first, from a list that has the innermost last
abbrev pub nearest_first : List CodeWaiting → List Waiting → List Waiting
nearest_first [] after = after
nearest_first (w ∷ ws) after = nearest_first ws (shown_waiting w ∷ after)

-- all that is open, the innermost first
abbrev pub shown_stack : List CodeWaiting → List Waiting
shown_stack ws = nearest_first ws []

-- the state of the reader
abbrev pub state_of_reader : Reader → State
state_of_reader reader = record {
  waiting = shown_stack reader.waiting.items;
  level = shown_level reader.level;
  wanted =
      reader.wanted;
}

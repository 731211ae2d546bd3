-- Answers of calls as plain values.
use Rattle.std.specs.Prelude.{Result, Ok, Err}

-- an answer with another value in place of its own; an error stays
abbrev pub answer_as : {A B E : Type 0} → (A → B) → Result A E → Result B E
answer_as f (Ok value) = Ok (f value)
answer_as f (Err error) = Err error

-- that a call was done, or else its error
abbrev pub done_or_error : {A E : Type 0} → Result A E → Result (Unit {0}) E
done_or_error result = answer_as (λ _. tt) result

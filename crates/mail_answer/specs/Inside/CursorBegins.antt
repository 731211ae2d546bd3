-- A walk before its first step.
use Rattle.std.specs.Prelude.{◌≡◌, ℕ, ◌<◌, ◌≤◌, Bool, false, List, [], ◌∷◌, length}
use Rattle.mail_index.specs.Tables.{Table}
use Rattle.mail_query.specs.Query.{Query}
use Rattle.mail_query.specs.Truth.{is_true}
use Rattle.mail_answer.specs.TableFacts.{facts_at}
use Rattle.mail_answer.specs.Marks.{truth_at}
use Rattle.mail_answer.specs.CursorAhead.{WalkAhead}

-- exactly the messages that satisfy the query still come
pub record AreTruthsOf (t : Table) (q : Query) (truths : List Bool) : Type 0 where
  pub each : (m : ℕ) → m < length t.messages → truth_at truths m ≡ is_true q (facts_at t m)
  pub past : (m : ℕ) → length t.messages ≤ m → truth_at truths m ≡ false

-- for each walk, exactly the messages that satisfy its query still come
abbrev pub TellAll : Table → List Query → List WalkAhead → Type 0
TellAll t [] [] = Unit {0}
TellAll t [] (w ∷ ws) = ⊥
TellAll t (q ∷ qs) [] = ⊥
TellAll t (q ∷ qs) (w ∷ ws) = AreTruthsOf t q w.truths × TellAll t qs ws

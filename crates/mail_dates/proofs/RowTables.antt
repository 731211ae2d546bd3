-- Tables of worked examples, computed by the formula of day numbers. The expected seconds were computed by other means.
use Rattle.mail_dates.proofs.Words.{◌≡◌, ℕ, List, map, Option, Some, Result, Ok, ℤ, pos, ap, ◌∙◌, DateFault, Range, day_number}
use Rattle.mail_dates.proofs.Formula.{number_by_formula, day_number-formula}

-- each row has an input and its result
pub record Holds {A B : Type 0} (read : A → B) (rows : List (A × B)) : Type 0 where
  pub each : map (λ row. read row.0) rows ≡ map (λ row. row.1) rows

pub hold : {A B : Type 0} (by : (ℤ → ℕ → ℕ → Option ℤ) → A → B) {rows : List (A × B)} →
    map (λ row. by number_by_formula row.0) rows ≡ map (λ row. row.1) rows → Holds (by day_number) rows
hold by {rows} e = record { each = ap (λ number. map (λ row. by number row.0) rows) day_number-formula ∙ e }

-- rows in which each text has the same result
abbrev pub all_say : {A B : Type 0} → B → List A → List (A × B)
all_say said texts = map (λ text. (text, said)) texts

abbrev pub between : Option ℤ → Option ℤ → Result Range DateFault
between from until = Ok (record { from = from; until = until })

abbrev pub days : ℕ → ℕ → Result Range DateFault
days from until = between (Some (pos from)) (Some (pos until))

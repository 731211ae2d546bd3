-- Worked examples of ranges of days. A table of tests has many more.
use Rattle.mail_dates.proofs.Words.{◌≡◌, ℕ, List, [], ◌∷◌, ◌++◌, map, refl, Some, None, Result, Ok, Err, pos, codes, DateFault, BadDate, BadNumber, Range, month_of, period_of, latest_days_by, range_at, range_by}
use Rattle.std.specs.List.{AllByRecursion}
use Rattle.mail_dates.specs.RangeGrammar.{IsRange, IsFault}
use Rattle.mail_dates.proofs.RangeReading.{range_law, fault_law}
use Rattle.mail_dates.proofs.Formula.{number_by_formula}
use Rattle.mail_dates.proofs.RowTables.{hold, all_say, between, days}

-- what the grammar says of a text at the second `now`
abbrev Says : ℕ → List ℕ → Result Range DateFault → Type 0
Says now text (Ok range) = IsRange now text range
Says now text (Err fault) = IsFault now text fault

says : (now : ℕ) (text : List ℕ) (said : Result Range DateFault) → range_at text now ≡ said → Says now text said
says now text (Ok range) e = let law = range_law now text range in law.0 e
says now text (Err fault) e = let law = fault_law now text fault in law.0 e

all_hold : (now : ℕ) (rows : List (List ℕ × Result Range DateFault)) → map (λ row. range_at row.0 now) rows
    ≡ map (λ row. row.1) rows → AllByRecursion (λ row. Says now row.0 row.1) rows
all_hold now [] e = tt
all_hold now (row ∷ rows) e =
    let first : range_at row.0 now ≡ row.1 = cc in
    let rest : map (λ row. range_at row.0 now) rows ≡ map (λ row. row.1) rows = cc in
    (says now row.0 row.1 first, all_hold now rows rest)

record Mean (now : ℕ) (rows : List (List ℕ × Result Range DateFault)) : Type 0 where
  each : AllByRecursion (λ row. Says now row.0 row.1) rows

mean : {now : ℕ} {rows : List (List ℕ × Result Range DateFault)}
    → map (λ row. range_by number_by_formula now row.0) rows ≡ map (λ row. row.1) rows → Mean now rows
unfolding range_at
mean {now} {rows} e = let holds = hold (λ number text. range_by number now text) e
    in record { each = all_hold now rows holds.each }

-- a day in May 2003, and one in May 9603
abbrev in_2003 : ℕ
in_2003 = 1053259200

abbrev in_9603 : ℕ
in_9603 = 240886094400

rows : Mean in_2003 ((codes "1d", days 1053129600 1053215999) ∷ (codes "1M", days 1050624000 1050710399) ∷
    (codes "1y", days 1021680000 1021766399)
    ∷ (codes "20030228", days 1046390400 1046476799) ∷ (codes "2003", days 1041379200 1072915199)
    ∷ (codes "mar", days 1046476800 1049155199) ∷ (codes "oct", days 1033430400 1036108799)
    ∷ (codes "21oct-mar", days 1035158400 1049155199) ∷ (codes "21apr-mar", days 1019347200 1049155199)
    ∷ (codes "6w-2w", days 1049587200 1052092799) ∷ (codes "21apr-1w", days 1050883200 1052697599)
    ∷ (codes "21apr-", days 1050883200 1053259200) ∷ [])
    × Mean 1046476800 ((codes "29feb", days 951782400 951868799) ∷ [])
    -- the latest year; a start is compared with its end, and an end isn't cut to today
    × Mean in_9603 ((codes "may18", days 240886051200 240886137599) ∷ (codes "dec-jan", days 240871536000 240876892799)
    ∷ (codes "29feb-", days 240784617600 240886094400) ∷ (codes "-may", between None (Some (pos 240887260799))) ∷ [])
    × Mean 0 ((codes "jan", days 0 2678399) ∷ [])
    -- days that no year has, texts with none of the forms, and counts that are too long
    × Mean in_2003 (all_say (Err BadDate) (codes "31apr" ∷ codes "20030229" ∷ codes "200302" ∷ codes "12345d-1-2" ∷
    codes "01oct" ∷ [] ∷ codes "12345d " ∷ (codes "mar" ++ (0x0D ∷ []))
    ∷ (codes "mar" ++ (0x0A ∷ [])) ∷ []))
    × Mean in_2003 (all_say (Err BadNumber) (codes "12345d" ∷ codes "x-12345d" ∷ codes "12345d-" ∷ []))
unfolding period_of month_of latest_days_by
rows = (mean refl, mean refl, mean refl, mean refl, mean refl, mean refl)

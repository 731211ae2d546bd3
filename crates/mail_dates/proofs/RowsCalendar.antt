-- Worked examples of days, moments and the dates in a range.
use Rattle.mail_dates.proofs.Words.{◌≡◌, ℕ, true, false, [], ◌∷◌, map, refl, Option, Some, None, ℤ, pos, negsuc, codes, option_map, day_number, month_of, start_of_day, end_of_day, has_date, Range}
use Rattle.mail_dates.proofs.RowTables.{Holds, hold}

-- the number of a day, from its year, month and date
abbrev numbered : (ℤ → ℕ → ℕ → Option ℤ) → ℤ × ℕ × ℕ → Option ℤ
numbered number day = number day.0 day.1 day.2

moments : Holds (λ day. option_map start_of_day (numbered day_number day)) (((pos 1970, 1, 1), Some (pos 0)) ∷ [])
    × Holds (λ day. option_map end_of_day (numbered day_number day))
    (((pos 9999, 12, 31), Some (pos 253402300799)) ∷ [])
moments = (
  hold (λ number day. option_map start_of_day (numbered number day)) refl,
  hold (λ number day. option_map end_of_day (numbered number day)) refl,
)

-- the first and the last day of the calendar, leap days, and days that it doesn't have
days : Holds (numbered day_number) (((negsuc 9998, 1, 1), Some (negsuc 4371586)) ∷ ((negsuc 9999, 12, 31), None)
    ∷ ((pos 10000, 1, 1), None) ∷ ((pos 0, 2, 29), Some (negsuc 719468)) ∷ ((pos 1900, 2, 29), None)
    ∷ ((pos 2003, 0, 1), None) ∷ ((pos 2003, 1, 0), None) ∷ [])
days = hold numbered refl

months : map month_of (codes "Jan" ∷ codes "dEC" ∷ [] ∷ []) ≡ Some 1 ∷ Some 12 ∷ None ∷ []
unfolding month_of
months = refl

abbrev range : Option ℤ → Option ℤ → Range
range from until = record { from = from; until = until }

-- a range has its ends; one without ends has any date, but a missing date isn't in it
ranges : (map (has_date (range (Some (negsuc 4)) (Some (pos 9))))
    (Some (negsuc 4) ∷ Some (negsuc 5) ∷ Some (pos 9) ∷ Some (pos 10) ∷ []) ≡ true ∷ false ∷ true ∷ false ∷ [])
    × (map (has_date (range None None)) (Some (negsuc 4) ∷ None ∷ []) ≡ true ∷ false ∷ [])
    × (has_date (range (Some (pos 5)) (Some (pos 4))) (Some (pos 5)) ≡ false)
ranges = (refl, refl, refl)

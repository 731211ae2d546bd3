-- The range that a text of days names, as it is read. Laws prove that RangeGrammar says the same.
use Rattle.std.specs.Prelude.{ℕ, ◌/◌, ◌==◌, ℤ, pos, int_le, Bool, true, false, ◌&&◌, List, [], ◌∷◌, Option, Some, None}
use Rattle.std.specs.Prelude.{Result, Ok, Err, ok_or}
use Rattle.std.specs.List.{slice_split}
use Rattle.std.specs.Option.{option_map_or}
use Rattle.contract_words.specs.Answers.{◌>>=◌}
use Rattle.mail_dates.specs.declared.fault.DateFault.{DateFault}
use Rattle.mail_dates.specs.declared.fault.DateFault.TheVariants.{BadDate}
use Rattle.mail_dates.specs.declared.days.Days.{Days}
use Rattle.mail_dates.specs.declared.range.Range.{Range}
use Rattle.mail_dates.specs.Calendar.{day_number, start_of_day, end_of_day}
use Rattle.mail_dates.specs.Periods.{period_of, period_days_by}

-- whether there is a date, and it isn't before the first second or after the last; an end that is None is no bound
abbrev pub has_date : Range → Option ℤ → Bool
has_date range None = false
has_date range (Some second) =
    option_map_or (λ from. int_le from second) range.from true
    && option_map_or (λ until. int_le second until) range.until true

-- whether a byte is `-`
abbrev pub is_dash : ℕ → Bool
is_dash b = b == 0x2D

-- the range of all seconds of these days
abbrev pub range_of_days : Days → Range
range_of_days days = record { from = Some (start_of_day days.first); until = Some (end_of_day days.last) }

-- `day_number` gives the number of a day of the calendar.
module _ (day_number : ℤ → ℕ → ℕ → Option ℤ) where
  -- the days that a text names; days without a year begin by the day `by`
  abbrev pub named_days_by : ℤ → ℤ → List ℕ → Result Days DateFault
  named_days_by today by text =
      period_of text >>= (λ period. ok_or (period_days_by day_number today by period) BadDate)

  -- the last day and the last second of an end; an empty end is now
  abbrev pub end_by : ℕ → List ℕ → Result (ℤ × ℤ) DateFault
  end_by now [] = Ok (pos (now / 86400), pos now)
  end_by now text = do
    days ← named_days_by (pos (now / 86400)) (pos (now / 86400)) text
    Ok (days.last, end_of_day days.last)

  -- the first second of a start; an empty start is no bound, and one without a year begins by the end's last day
  abbrev pub start_by : ℕ → ℤ → List ℕ → Result (Option ℤ) DateFault
  start_by now end [] = Ok None
  start_by now end text = do
    days ← named_days_by (pos (now / 86400)) end text
    Ok (Some (start_of_day days.first))

  -- the range from a start to a second; `end` is the end's last day
  abbrev pub range_from_by : ℕ → ℤ → List ℕ → ℤ → Result Range DateFault
  range_from_by now end start until = do
    from ← start_by now end start
    Ok (record { from = from; until = Some until })

  -- the range of a start and an end, one of which may be empty; the end is read first
  abbrev pub range_between_by : ℕ → List ℕ → List ℕ → Result Range DateFault
  range_between_by now [] [] = Err BadDate
  range_between_by now start end = do
    end ← end_by now end
    from ← start_by now end.0 start
    Ok (record { from = from; until = Some end.1 })

  -- the range of a text that is a period
  abbrev pub range_of_period_by : ℕ → List ℕ → Result Range DateFault
  range_of_period_by now text = do
    days ← named_days_by (pos (now / 86400)) (pos (now / 86400)) text
    Ok (range_of_days days)

  -- the range of a text cut at its dashes
  abbrev pub range_of_parts_by : ℕ → List (List ℕ) → Result Range DateFault
  range_of_parts_by now (period ∷ []) = range_of_period_by now period
  range_of_parts_by now (start ∷ end ∷ []) = range_between_by now start end
  range_of_parts_by now _ = Err BadDate

  -- the range of a text: a period, or a start and an end around a dash
  abbrev pub range_by : ℕ → List ℕ → Result Range DateFault
  range_by now text = range_of_parts_by now (slice_split is_dash text)

-- the range of a text at the second `now`, by the numbers of the calendar
unfoldable pub range_at : List ℕ → ℕ → Result Range DateFault
range_at text now = range_by day_number now text

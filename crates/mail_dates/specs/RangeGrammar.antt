-- The grammar of ranges of days: the seconds that each text means, with one case for each production, and the fault of
-- a text that is no range.
use Rattle.std.specs.Prelude.{◌≡◌, ℕ, ◌/◌, ℤ, pos, false, List, [], ◌∷◌, ◌++◌, Some, None}
use Rattle.std.specs.List.{list_any}
use Rattle.mail_dates.specs.declared.fault.DateFault.{DateFault}
use Rattle.mail_dates.specs.declared.fault.DateFault.TheVariants.{BadDate, BadNumber}
use Rattle.mail_dates.specs.declared.days.Days.{Days}
use Rattle.mail_dates.specs.declared.range.Range.{Range}
use Rattle.mail_dates.specs.Calendar.{start_of_day, end_of_day}
use Rattle.mail_dates.specs.PeriodGrammar.{NamesDays, IsLongCount}
use Rattle.mail_dates.specs.Ranges.{is_dash}

-- the number of the day in which this second is
abbrev pub day_at : ℕ → ℤ
day_at now = pos (now / 86400)

-- The text means this range at the second `now`. Its form is: period | start "-" end | "-" end | start "-"
pub data IsRange (now : ℕ) : List ℕ → Range → Type 0 where
  -- from the period's first second to its last
  InPeriod : (period : List ℕ) (days : Days) → NamesDays (day_at now) (day_at now) period days
      → IsRange now period (record { from = Some (start_of_day days.first); until = Some (end_of_day days.last) })
  -- from the start's first second to the end's last; a start without a year begins by the last day of the end
  Between : (start end : List ℕ) (first last : Days) → NamesDays (day_at now) (day_at now) end last
      → NamesDays (day_at now) last.last start first
      → IsRange now (start ++ 0x2D ∷ end) (record
      { from = Some (start_of_day first.first); until = Some (end_of_day last.last) })
  -- an empty start is no bound
  Until : (end : List ℕ) (last : Days) → NamesDays (day_at now) (day_at now) end last
      → IsRange now (0x2D ∷ end) (record { from = None; until = Some (end_of_day last.last) })
  -- an empty end is now
  Since : (start : List ℕ) (first : Days) → NamesDays (day_at now) (day_at now) start first
      → IsRange now (start ++ 0x2D ∷ []) (record { from = Some (start_of_day first.first); until = Some (pos now) })

-- the end isn't faulty: it is empty, or it names days
pub data IsEnd (now : ℕ) : List ℕ → Type 0 where
  NoEnd : IsEnd now []
  NamedEnd : (end : List ℕ) (last : Days) → NamesDays (day_at now) (day_at now) end last → IsEnd now end

-- The period, the end or the start is a count that is too long. The end is read first, so a start counts only if the
-- end isn't faulty.
pub data HasLongCount (now : ℕ) : List ℕ → Type 0 where
  AsPeriod : (period : List ℕ) → IsLongCount period → HasLongCount now period
  AsEnd : (start end : List ℕ) → list_any is_dash start ≡ false → IsLongCount end
      → HasLongCount now (start ++ 0x2D ∷ end)
  AsStart : (start end : List ℕ) → IsLongCount start → IsEnd now end → HasLongCount now (start ++ 0x2D ∷ end)

-- why the text is no range; any fault but a count that is too long is a bad date
pub data IsFault (now : ℕ) (text : List ℕ) : DateFault → Type 0 where
  TooLong : HasLongCount now text → IsFault now text BadNumber
  NoRange : ((range : Range) → IsRange now text range → ⊥) → (HasLongCount now text → ⊥) → IsFault now text BadDate

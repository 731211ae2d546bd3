-- The search from a year downwards finds the latest year that passes.
use Rattle.mail_dates.proofs.Words.{◌≡◌, ℕ, zero, suc, ◌<◌, ◌≤◌, Bool, true, false, Option, Some, None, refl, ◌∙◌, arith, ℤ, pos, negsuc, ◌+ℤ◌, ◌-ℤ◌, ◌≤ℤ◌, ◌<ℤ◌, unsigned_abs, ◌↔◌, option_map, IsTrue, int_le, ints, ◌>>=◌, day_number, greatest_below, year_at, latest_year, IsLatestYear, HasNoLater, days_from_to, days_in_by, latest_days_by, begin_by, fit_by}
use Rattle.mail_dates.specs.declared.days.DaysOfYear.{DaysOfYear}
use Rattle.mail_dates.specs.declared.days.DaysOfYear.TheVariants as days
use Rattle.mail_dates.proofs.CivilDays.{year_within, numbered}

-- the place of a year among those of the calendar, from 1
abbrev pub place : ℤ → ℕ
place year = unsigned_abs (year +ℤ pos 10000)

-- the latest year up to this one that passes
abbrev pub latest_up_to : ℤ → (ℤ → Bool) → Option ℤ
latest_up_to year passes = option_map year_at (greatest_below (place year) (λ n. passes (year_at n)))

record IsPlaced (year : ℤ) : Type 0 where
  n : ℕ
  at : place year ≡ suc n
  is : year_at n ≡ year
  before : place (year -ℤ pos 1) ≡ n

placed : (year : ℤ) → negsuc 9998 ≤ℤ year → IsPlaced year
placed year h = grind (arith, ints)

module _ (passes : ℤ → Bool) where
  pub latest_found : (year : ℤ) → negsuc 9998 ≤ℤ year → passes year ≡ true → latest_up_to year passes ≡ Some year
  latest_found year low e = grind (arith, placed)

  pub latest_skipped : (year : ℤ) → negsuc 9998 ≤ℤ year → passes year ≡ false → latest_up_to year passes
      ≡ latest_up_to (year -ℤ pos 1) passes
  latest_skipped year low e =
      let p = placed _ low in
      grind arith

  -- the years after this one can be left out, if none of them passes
  pub latest_from : (k : ℕ) (year : ℤ) → negsuc 9998 ≤ℤ year → ((next : ℤ) → year <ℤ next → passes next ≡ false)
      → latest_up_to (year +ℤ pos k) passes ≡ latest_up_to year passes
  latest_from zero year low no_later = grind (arith, ints)
  latest_from (suc k) year low no_later =
      let before : (year +ℤ pos (suc k)) -ℤ pos 1 ≡ year +ℤ pos k = omega (arith, ints) in
      latest_skipped _ (omega (arith, ints)) (no_later (year +ℤ pos (suc k)) (omega (arith, ints)))
      ∙ rw before (latest_from k _ low no_later)

  pub latest_year_from : (year : ℤ) → negsuc 9998 ≤ℤ year → year ≤ℤ pos 9999
      → ((next : ℤ) → year <ℤ next → passes next ≡ false) → latest_year passes ≡ latest_up_to year passes
  latest_year_from year low high no_later =
      let k : ℕ = unsigned_abs (pos 9999 -ℤ year) in
      let top : year +ℤ pos k ≡ pos 9999 = rest year high in
      rw top at (latest_from k _ low no_later)
    where
      rest : (year : ℤ) → year ≤ℤ pos 9999 → year +ℤ pos (unsigned_abs (pos 9999 -ℤ year)) ≡ pos 9999
      rest year h = grind arith

-- days of a year later than that of this day don't begin by this day
begins_later : (by year next : ℤ) (month date : ℕ) (last : Option ℤ) → HasNoLater by year → year <ℤ next
    → begin_by by (days_from_to (day_number next month date) last) ≡ false
begins_later by year next month date last h later = go (day_number next month date) last refl
  where
    go : (first last : Option ℤ) → day_number next month date ≡ first → begin_by by (days_from_to first last) ≡ false
    go None last e = refl
    go (Some first) None e = refl
    go (Some first) (Some last) e = after by first (h.later next month date first later e)
      where
        after : (by first : ℤ) → by <ℤ first → int_le first by ≡ false
        after by first lt = grind (arith, ints)

pub none_later_begins : (by year : ℤ) (which : DaysOfYear) → HasNoLater by year → (next : ℤ) → year <ℤ next
    → begin_by by (days_in_by day_number which next) ≡ false
none_later_begins by year days.All h next later = begins_later by _ _ 1 1 _ h later
none_later_begins by year (days.Month month) h next later = begins_later by _ _ _ 1 _ h later
none_later_begins by year (days.Day month day) h next later = begins_later by _ _ _ _ _ h later

-- the search has come down to this year, and no year above it fits
pub record IsSearch (which : DaysOfYear) (by year : ℤ) : Type 0 where
  pub low : negsuc 9999 ≤ℤ year
  pub high : year ≤ℤ pos 9999
  pub latest : latest_year (fit_by day_number which by) ≡ latest_up_to year (fit_by day_number which by)

pub search_start : (which : DaysOfYear) (by year : ℤ) → HasNoLater by year → IsSearch which by year
search_start which by year h = record {
  low = let low = h.low in omega (arith, ints);
  high = h.high;
  latest = latest_year_from _ year h.low h.high (none_later_begins by _ _ h);
}

pub search_next : (which : DaysOfYear) (by year next : ℤ) → IsSearch which by year → negsuc 9998 ≤ℤ year
    → begin_by by (days_in_by day_number which year) ≡ false → next ≡ year -ℤ pos 1 → IsSearch which by next
search_next which by year next h low e is = rw is (record {
  low = omega (arith, ints);
  high = let high = h.high in omega (arith, ints);
  latest = h.latest ∙ latest_skipped (fit_by day_number which by) year low e;
})

pub search_found : (which : DaysOfYear) (by year : ℤ) → IsSearch which by year → negsuc 9998 ≤ℤ year
    → begin_by by (days_in_by day_number which year) ≡ true → days_in_by day_number which year
    ≡ latest_days_by day_number which by
unfolding latest_days_by
search_found which by year h low e =
    grind (arith, latest_found)

pub search_over : (which : DaysOfYear) (by year : ℤ) → IsSearch which by year → year <ℤ negsuc 9998 → None
    ≡ latest_days_by day_number which by
unfolding latest_days_by
search_over which by year h over =
    let end : year ≡ negsuc 9999 = let low = h.low in omega (arith, ints) in
    grind arith

-- ---- the year found is the latest, and the latest is found

-- the number passes, and no number below the limit that passes is greater
record IsGreatest (passes : ℕ → Bool) (limit found : ℕ) : Type 0 where
  has : passes found ≡ true
  below : found < limit
  most : (k : ℕ) → k < limit → passes k ≡ true → k ≤ found

greatest_is : (limit : ℕ) (passes : ℕ → Bool) (found : ℕ) → greatest_below limit passes ≡ Some found
    → IsGreatest passes limit found
greatest_is zero passes found e = absurd cc
greatest_is (suc n) passes found e = grind (arith, greatest_is n passes found)

found_year : (o : Option ℕ) (year : ℤ) → option_map year_at o ≡ Some year → (n : ℕ) × (o ≡ Some n) × (year_at n ≡ year)
found_year o year h = grind arith

-- only years of the calendar pass
abbrev pub AreOfCalendar : (ℤ → Bool) → Type 0
AreOfCalendar passes = (year : ℤ) → IsTrue (passes year) → (negsuc 9998 ≤ℤ year) × (year ≤ℤ pos 9999)

pub latest_is : (passes : ℤ → Bool) (year : ℤ) → AreOfCalendar passes → latest_year passes ≡ Some year
    → IsLatestYear passes year
latest_is passes year calendar e =
    let f = found_year (greatest_below 19999 (λ n. passes (year_at n))) year e in
    let g = greatest_is 19999 (λ n. passes (year_at n)) f.0 f.1 in
    grind (arith, go, placed)
  where
    go : (other : ℤ) → passes other ≡ true → IsPlaced other → (m : ℕ) → year_at m ≡ year
        → IsGreatest (λ n. passes (year_at n)) 19999 m → other ≤ℤ year
    go other h p m same g =
        let high : other ≤ℤ pos 9999 = (calendar other h).1 in
        let at : place other ≡ suc p.n = p.at in
        let is : year_at p.n ≡ other = p.is in
        let most : p.n ≤ m = grind (arith, ints) in
        omega (arith, ints)

pub is_latest : (passes : ℤ → Bool) (year : ℤ) → AreOfCalendar passes → IsLatestYear passes year → latest_year passes
    ≡ Some year
is_latest passes year calendar h =
    let within = calendar year h.has in
    latest_year_from _ year within.0 within.1 (λ next later. not_later next later (passes next) refl)
    ∙ latest_found passes year within.0 h.has
  where
    not_later : (next : ℤ) → year <ℤ next → (t : Bool) → passes next ≡ t → t ≡ false
    not_later next later true e = grind arith
    not_later next later false e = refl

-- a year that has days is a year of the calendar
of_calendar : (by year : ℤ) (month date : ℕ) (last : Option ℤ)
    → begin_by by (days_from_to (day_number year month date) last) ≡ true → (negsuc 9998 ≤ℤ year) × (year ≤ℤ pos 9999)
of_calendar by year month date last h = grind (arith, year_within, numbered)

pub fits_are_of_calendar : (which : DaysOfYear) (by : ℤ) → AreOfCalendar (fit_by day_number which by)
fits_are_of_calendar which by year h = grind (arith, of_calendar)

pub latest_year_law : (which : DaysOfYear) (by year : ℤ)
    → (latest_year (fit_by day_number which by) ≡ Some year) ↔ IsLatestYear (fit_by day_number which by) year
latest_year_law which by year = (
  latest_is _ _ (fits_are_of_calendar _ by),
  is_latest _ _ (fits_are_of_calendar _ by),
)

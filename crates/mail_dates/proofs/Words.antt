-- The names of std and of the definitions that the proofs use, in one place.
pub use Rattle.jiff_core.proofs.CalendarLemmas.{day_count-lt_year, days_from_civil-day_count, days_in_month_bounds}
pub use Rattle.jiff_core.proofs.SignedLemmas.{signed_arith}
pub use Rattle.jiff_core.specs.Calendar.{IsDate, IsEpochDay, days_from_civil, days_in_month}
pub use Rattle.jiff_core.specs.Date.{IsYmd, epoch_day}
pub use Rattle.mail_dates.specs.Calendar.{HasNoLater, IsLatestYear, end_of_day, greatest_below, is_civil_day, latest_year, start_of_day, year_at}
unfoldable pub use Rattle.mail_dates.specs.Calendar.{day_number, month_of}
pub use Rattle.mail_dates.specs.HeaderDates.{date_by, date_of_parts_by, date_of_tokens_by, is_gap, time_of_parts, with_first, without_day_name, year_of}
unfoldable pub use Rattle.mail_dates.specs.HeaderDates.{date_of, hours_west, offset_of, time_of, date_tokens}
pub use Rattle.mail_dates.specs.IsoRanges.{is_dot, iso_parts_by, iso_range_by, iso_range_of_parts_by}
unfoldable pub use Rattle.mail_dates.specs.IsoRanges.{iso_days_by, iso_range_of}
pub use Rattle.mail_dates.specs.Numbers.{number_in, ◌>>=◌}
pub use Rattle.mail_dates.specs.Periods.{begin_by, days_from_to, days_in_by, fit_by}
unfoldable pub use Rattle.mail_dates.specs.Periods.{latest_days_by, period_of}
pub use Rattle.mail_dates.specs.Ranges.{has_date, is_dash, range_by, range_of_parts_by}
unfoldable pub use Rattle.mail_dates.specs.Ranges.{range_at}
pub use Rattle.mail_dates.specs.declared.fault.DateFault.{DateFault}
pub use Rattle.mail_dates.specs.declared.fault.DateFault.TheVariants.{BadDate, BadNumber}
pub use Rattle.mail_dates.specs.declared.range.Range.{Range}
pub use Rattle.std.proofs.Common.{Bool, Err, FitsSigned, List, None, Ok, Option, Result, Some, [], ap, arith, cond, drop, false, get_or, length, map, nat_le, neg_ℤ, negsuc, of_z, pos, refl, rules, subst, suc, sym, take, to_z, true, unsigned_abs, w16, w32, w64, w8, zero, ℕ, ℤ, ◌&&◌, ◌*ℤ◌, ◌*◌, ◌++◌, ◌+ℤ◌, ◌+◌, ◌-ℤ◌, ◌-◌, ◌<ℤ◌, ◌<◌, ◌==◌, ◌^◌, ◌∙◌, ◌∷◌, ◌≡◌, ◌≤ℤ◌, ◌≤◌}
pub use Rattle.std.proofs.Math.Nat.{pow-le-pow_right}
pub use Rattle.std.proofs.lemmas.Bool.Decides.{nat_tests}
pub use Rattle.std.proofs.lemmas.Int.{ints, to_z-of_z}
pub use Rattle.std.proofs.lemmas.List.{take_rest}
pub use Rattle.std.specs.List.{list_all, onto_first, position, position_or_len, slice_split}
pub use Rattle.std.specs.Prelude.{IsTrue, codes, if◌then◌else◌, int_le, option_map, ◌↔◌}

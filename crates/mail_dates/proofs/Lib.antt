-- The proofs of mail_dates: words, lemmas and rows. Proofs of single functions are in folders named after these.
pub mod Words
pub mod CivilDays
pub mod Cuts
pub mod Digits
pub mod Formula
pub mod LatestYear
pub mod PeriodForms
pub mod PeriodReading
pub mod RangeReading
mod RowTables
mod RowsCalendar
mod RowsHeaderDates
mod RowsRanges
mod RowsIsoRanges

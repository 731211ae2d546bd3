pub mod Numbers
pub mod Calendar
pub mod HeaderDates
pub mod Periods
pub mod PeriodGrammar
pub mod Ranges
pub mod RangeGrammar
pub mod IsoRanges

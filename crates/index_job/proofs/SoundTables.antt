-- The table of sound archives is well-formed.
pub mod Dates
pub mod Folds
pub mod Ids
pub mod Keys
pub mod Records
pub mod Spans
pub mod Whole

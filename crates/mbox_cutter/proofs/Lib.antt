-- The proofs of mbox_cutter: words, lemmas and rows. Proofs of single functions are in folders named after these.
pub mod Words
pub mod FirstLines
pub mod KnownSteps
mod LineEnds
pub mod LineLists
pub mod LinesAreCut
pub mod Machine
pub mod OnlyLines
pub mod Parts
mod RowTables
mod RowsArchives
mod RowsEvents
mod RowsLines
mod RowsSeparators
pub mod ScanSteps
pub mod Sources
pub mod Steps
pub mod Tokens
pub mod LineReaders

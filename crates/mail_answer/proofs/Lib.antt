-- The proofs of mail_answer: words, rows and lemmas. Proofs of single functions are in folders named after these.
pub mod Words
mod RowsTableFacts
mod RowsThreads
mod RowsShapes
mod RowsEndings
mod RowsCutAgain
pub mod CursorLaws
pub mod ThreadLaws
pub mod OutputLaws
pub mod ArchiveLaws

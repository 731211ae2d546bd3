-- The proofs of index_job: words and lemmas. Proofs of single functions are in folders named after these.
pub mod Words
pub mod Terms
pub mod FoldedWords
pub mod BlankTexts
pub mod JoinedLines
pub mod Gatherings
pub mod ReadingLines
pub mod SourceReads
pub mod Headings
pub mod ArchiveSteps
pub mod TableSteps
pub mod MessageSteps
pub mod SoundTables
pub mod OneTable

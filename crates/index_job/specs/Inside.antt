-- Definitions for private functions only: what these promise one another. No public clause depends on them.
pub mod ArchiveReading
pub mod BlankTexts
pub mod FoldedWords
pub mod Gathering
pub mod WaitingLines
pub mod MessageEnds

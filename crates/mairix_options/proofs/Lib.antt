-- The proofs of mairix_options: words, lemmas and rows. Proofs of single functions are in folders named after these.
pub mod Words
pub mod Entries
pub mod OneKind
pub mod Parses
mod RowsCommandLine
mod RowsRcfile
pub mod Searches
pub mod Settings
pub mod Paths
pub mod RcPaths
pub mod Trimming

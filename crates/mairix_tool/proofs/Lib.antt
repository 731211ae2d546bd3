-- The proofs of mairix_tool: words, lemmas and rows. Proofs of single functions are in folders named after these.
pub mod Words
pub mod ArchiveLaws
pub mod TableLaws
pub mod ReplyLaws
pub mod RowsReplies

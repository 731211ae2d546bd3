-- The proofs of mairix_run: lemmas about streams and about files.
mod AskedNames
pub mod FileFronts
pub mod FilesAt
pub mod FirstStates
pub mod IndexReads
pub mod IndexReplies
pub mod IndexedFiles
pub mod LikeWorks
pub mod MadeFiles
pub mod MadeRuns
pub mod MakingRuns
pub mod NamedSources
pub mod NamesUsed
pub mod ReadFiles
pub mod Replies
pub mod RowsTasks
pub mod RunParts
pub mod RunStages
pub mod SearchedArchives
pub mod Taking
pub mod UnreadArchives
pub mod WholeFiles
pub mod Written

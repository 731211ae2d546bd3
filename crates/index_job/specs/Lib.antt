-- The definitions of indexing, from the faults of a job to its whole result; each file comes after those that it uses.
pub mod JobFaults
pub mod MessageTerms
pub mod ArchiveTables
pub mod OneTable
pub mod ArchiveRefusals
pub mod Indexing
pub mod IndexJobs
pub mod Inside

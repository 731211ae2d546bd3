-- The definitions of runs that index archives.
pub mod ArchivesIndexed
pub mod Counts
pub mod IndexRuns
pub mod SourcesStay

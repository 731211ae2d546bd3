-- Definitions for private functions only: what these promise one another, and views of their fields. No public clause
-- depends on them.
pub mod Drafts
pub mod FrontEntries
pub mod KeyFronts
pub mod KeyMaps
pub mod KeyParts
pub mod KeyRuns
pub mod KeyTables
pub mod SectionCounts
pub mod ShortDifferences
pub mod Signing
pub mod Walks

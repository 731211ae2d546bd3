-- The proofs of index_run: words and lemmas. Proofs of single functions are in folders named after these.
pub mod ArchiveLists
pub mod ArchivesDecided
pub mod JobFiles
pub mod KeptSources
pub mod SoundArchives
pub mod Words

-- The laws of a file and its one table.
pub mod Accepts
pub mod Bytes
pub mod FileLemmas
pub mod Fronts
pub mod KnownFile
pub mod LebLemmas
pub mod OneTable
pub mod RecordFronts
pub mod SameTable
pub mod WholeFile

-- The laws of the archives of a run.
pub mod AskedPaths
pub mod FirstFaults
pub mod Renamed
pub mod Unaltered

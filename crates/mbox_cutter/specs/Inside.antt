-- Definitions for private functions and private fields only. No public clause depends on them.
pub mod Ahead
pub mod Cutter
pub mod MemoryFields
pub mod Resume
pub mod Scan
pub mod ReaderFields

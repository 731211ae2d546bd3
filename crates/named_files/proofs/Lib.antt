-- The proofs about calls on names, one after another, and about what was done to a folder.
pub mod FoundStates
pub mod Logs
pub mod MemoryFolders
mod Moments
pub mod Steps

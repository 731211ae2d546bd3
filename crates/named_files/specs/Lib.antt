-- What names lead to, what a crash may leave of it, and how a new file takes its name.
pub mod AddedReports
pub mod Crashes
pub mod Entries
pub mod FoundStates
pub mod Logs
pub mod MemoryFolders
pub mod OtherNames
pub mod Refusals
pub mod Reported
pub mod TakingNames

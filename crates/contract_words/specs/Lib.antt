-- The relations that the contracts of all crates use.
pub mod Answers
pub mod Archives
pub mod Blanks
pub mod Devices
pub mod Knowledge
pub mod Ranges

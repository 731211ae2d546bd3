-- What is read of the files to which some names lead.
pub mod Ahead
pub mod Names
pub mod Progress
pub mod States

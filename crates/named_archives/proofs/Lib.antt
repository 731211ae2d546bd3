-- The proofs about what is read of the files to which some names lead.
pub mod Failures
pub mod Held
pub mod Lists
pub mod Noted
pub mod Pieces
pub mod States

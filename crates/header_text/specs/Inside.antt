-- Definitions that the contracts of private functions and the proofs need. No public clause uses them.
pub mod Alphabet
pub mod Breaks
pub mod Fronts
pub mod Ids
pub mod Places
pub mod ShownWords

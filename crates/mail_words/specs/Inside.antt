-- Definitions that the contracts of private functions and the proofs need. No public clause uses them.
pub mod Folds
pub mod Runs

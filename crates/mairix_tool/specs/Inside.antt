-- Definitions for private functions only: what these promise one another. No public clause depends on them.
pub mod Answering

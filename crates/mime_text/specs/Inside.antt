-- Definitions for private functions and proofs only: what these functions promise one another, and views of fields. No
-- public clause depends on them.
pub mod Passing
pub mod Showing
pub mod TagSpans

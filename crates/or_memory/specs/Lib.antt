-- The definitions of refusals.
pub mod Refusals

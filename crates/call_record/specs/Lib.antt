-- The calls of a run, and what is known after them.
pub mod Calls
pub mod Note
pub mod Noted

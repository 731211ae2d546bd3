-- Definitions of what the parts of a run do.
pub mod RunParts

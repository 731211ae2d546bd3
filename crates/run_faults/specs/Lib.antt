-- The definitions of a run's faults: exit statuses, kinds and texts.
pub mod Faults
pub mod FaultTexts

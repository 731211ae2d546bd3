-- Definitions for private functions only: what these promise one another, and views of their fields. No public clause
-- depends on them.
pub mod ArchiveParts
pub mod Calls
pub mod Copies
pub mod CursorBegins
pub mod CursorFalls
pub mod CursorLists
pub mod CursorMarks
pub mod CursorScans
pub mod CursorTexts
pub mod CursorWalks
pub mod Digests
pub mod Endings
pub mod Forests
pub mod HeaderReads
pub mod NumbersToCome
pub mod PassedArchives
pub mod Readings
pub mod Spans
pub mod Writing

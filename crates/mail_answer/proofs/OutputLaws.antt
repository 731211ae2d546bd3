-- The laws of what an answer writes.
pub mod ArchiveParts
pub mod ChosenBelow
pub mod ClosedLemmas
pub mod ClosedMessages
pub mod CopiedPieces
pub mod CutAgain
pub mod CutMessages
pub mod Endings
pub mod EveryAnswer
pub mod HeaderReading
pub mod MessageLines
pub mod PartReads
pub mod ReadingLemmas
pub mod SentLemmas
pub mod Separated
pub mod SheetLemmas
pub mod SpanWrites

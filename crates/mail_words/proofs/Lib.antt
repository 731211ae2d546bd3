-- The proofs of mail_words: words, lemmas, rows and laws. Proofs of single functions are in folders named after these.
pub mod AsciiFolding
pub mod ByteReads
pub mod CharBytes
pub mod Characters
pub mod EvenFolding
pub mod EvenTexts
pub mod FoldingLemmas
pub mod FrontReads
pub mod Imports
pub mod JoinedEnds
pub mod Kept
pub mod KeptPairs
pub mod KeptRuns
pub mod LaneGaps
pub mod LaneRuns
pub mod Lengths
pub mod OneWord
pub mod Order
pub mod PairLanes
pub mod Places
pub mod Reading
mod RowTables
mod Rows
mod RowsFolding
mod RowsLimits
mod RowsUnicode
pub mod RunLemmas
pub mod Seams
pub mod ShownWords
pub mod Steps
pub mod WordBits
pub mod WordTests

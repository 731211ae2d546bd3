-- The proofs of contract_words: lemmas about the words that contracts of several crates use.
pub mod Collecting
pub mod Sending
pub mod DeviceLists
pub mod RangeOrder
pub mod RangePlaces
pub mod StillKnown

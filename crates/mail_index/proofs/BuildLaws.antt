-- The laws of an index that is built, in one file for each part of a builder.
pub mod DraftLemmas
pub mod EntryLemmas
pub mod FrontLemmas
pub mod HadPairs
pub mod InKeyOrder
pub mod KeyMapLemmas
pub mod KeyPlaces
pub mod PageLemmas
pub mod PairLaw
pub mod Placing
pub mod PostingLemmas
pub mod SameTexts
pub mod SigningLemmas
pub mod Sizes
pub mod SortedSlots
pub mod TableLemmas

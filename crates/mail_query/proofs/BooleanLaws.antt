-- Laws of the boolean language: its tokens, its reader, its grammar and its faults.
pub mod BooleanComplete
pub mod BooleanDepth
pub mod BooleanPlaces
pub mod BooleanTrees
pub mod StackLemmas
pub mod TokenLemmas

-- Laws of mairix patterns: their reader, their grammar and their faults.
pub mod ApproximateLemmas
pub mod DepthLemmas
pub mod EachLemmas
pub mod FlagLemmas
pub mod KindLemmas
pub mod MairixAnswers
pub mod MairixComplete
pub mod MairixExact
pub mod PlainWords
pub mod SignLemmas
pub mod SizeLemmas

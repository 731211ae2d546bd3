-- Laws of headers: their fields, unfolded bodies and ids.
pub mod HeaderLemmas
pub mod IdLemmas
pub mod IdRanges
pub mod PlaceLemmas
pub mod PushLemmas
pub mod UnfoldLemmas
pub mod UnfoldSizes

-- The laws of archives that are read at offsets.
pub mod AskedLemmas
pub mod CallLemmas
pub mod DigestLemmas
pub mod IndexedLemmas
pub mod KnowledgeLemmas
pub mod PassedArchives
pub mod StaleLemmas
pub mod VerifiedLemmas

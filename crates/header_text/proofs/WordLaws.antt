-- Laws of encoded words: their escapes, their base64, their charsets, and the text of a value.
pub mod CharacterLemmas
pub mod CharsetLemmas
pub mod DecodedLemmas
pub mod EscapeLemmas
pub mod GroupLemmas
pub mod LossyBytes
pub mod PieceLaws
pub mod ReaderLemmas
pub mod WordLemmas
pub mod WordRows

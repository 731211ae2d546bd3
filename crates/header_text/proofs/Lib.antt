-- The proofs of header_text: words, lemmas, rows and laws. Proofs of single functions are in folders named after these.
pub mod Words
pub mod Fronts
pub mod CutLemmas
pub mod OwnTexts
pub mod TextFronts
mod Rows
pub mod HeaderLaws
pub mod WordLaws

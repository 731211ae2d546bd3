-- The proofs of mail_index: words, lemmas and rows. Proofs of single functions are in folders named after these.
pub mod Words
pub mod Items
mod Rows
mod RowsDigest
pub mod BuildLaws
pub mod FileLaws
pub mod ViewLaws

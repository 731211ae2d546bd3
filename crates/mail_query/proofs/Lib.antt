-- The proofs of mail_query: words, lemmas, rows and laws. Proofs of single functions are in folders named after these.
pub mod Words
pub mod AnswerLemmas
pub mod PieceLemmas
pub mod NodeLemmas
pub mod NameLemmas
pub mod RowLexicon
mod RowsMairix
mod RowsBoolean
mod RowsTruth
pub mod BooleanLaws
pub mod MairixLaws

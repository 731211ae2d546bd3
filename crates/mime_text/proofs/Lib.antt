-- The proofs of mime_text: words, lemmas, rows and laws. Proofs of single functions are in folders named after these.
pub mod Words
mod FlagLemmas
mod IdSizes
mod StreamLaws
mod ParameterLemmas
mod ParameterLaws
mod TagLemmas
mod TagReads
mod Handing
mod LineSteps
mod HeldLines
mod RowTables
mod RowsTypes
mod RowsBodies
mod RowsParts
mod RowsLimits
mod RowsNames
mod FrameLemmas
mod GivingLemmas
mod StepLemmas
mod PassingLemmas
mod FedLemmas

-- The answers of the kit's files.
pub mod KitAnswers

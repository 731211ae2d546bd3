-- The definitions of command lines, of rcfiles, and of what both say of a run.
pub mod AnswerFiles
pub mod Blanks
pub mod CommandLine
pub mod Inside
pub mod Path
pub mod Rcfile
pub mod FaultTexts

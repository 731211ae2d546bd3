-- The system's calls on files, with their answers.
pub mod Answers
pub mod FileKinds
pub mod SystemCallCodes
pub mod SystemCalls

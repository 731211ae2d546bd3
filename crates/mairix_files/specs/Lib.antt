-- What is known of the system's files: of their bytes, and of what their names lead to; and the calls by which files
-- are found, opened and made.
pub mod EntryCodes
pub mod FileAnswers
pub mod FileStateCodes
pub mod FileStates
pub mod KitFiles
pub mod KitNews
pub mod LeftoverChains
pub mod LinkChains
pub mod NameCallCodes
pub mod NameCalls
pub mod NewFileChains
pub mod OpenChains
pub mod PlaceChains

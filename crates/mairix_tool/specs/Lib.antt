-- The definitions of runs, from what a message says to the reply and its text; each file comes after those that it
-- uses.
pub mod Chosen
pub mod MailOfArchives
pub mod TermsOfArchives
pub mod Asked
pub mod Replies
pub mod Runs
pub mod OneReply
pub mod WorkedReplies
pub mod Searching
pub mod OldTables
pub mod Altered
pub mod OnceRuns
pub mod StoredRuns
pub mod Inside
pub mod CutAgain

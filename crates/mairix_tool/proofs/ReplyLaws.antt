-- The laws of what runs reply.
pub mod Answers
pub mod CutAgain
pub mod Once
pub mod OneReply
pub mod Stored
pub mod Searching
pub mod SourcesRead

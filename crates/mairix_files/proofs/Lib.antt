-- The proofs about files of the system: what is noted of their calls, and of calls on names, and which links are
-- followed.
pub mod FileStates
pub mod FollowedLinks
pub mod KitFiles
pub mod NameSteps
pub mod NotedCalls
pub mod Writing

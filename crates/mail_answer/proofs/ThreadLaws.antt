-- The laws of threads.
pub mod ChosenThreads
pub mod EveryThread
pub mod ForestLemmas
pub mod JoinLemmas
pub mod NumberLists
pub mod OneThreadList
pub mod RootLemmas
pub mod ThreadLemmas

pub mod MarkLemmas
pub mod ReachedSteps
pub mod Edges
pub mod Changes
pub mod Walks
pub mod Steps
pub mod Fewer
mod Idle
pub mod ReachedLemmas
pub mod Ahead
pub mod Searches
pub mod VictimLemmas

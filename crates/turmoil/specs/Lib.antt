pub mod Commits
pub mod Counts

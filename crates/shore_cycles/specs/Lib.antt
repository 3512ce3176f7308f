pub mod Marks
pub mod Blockers
pub mod Reached
pub mod Cycles
pub mod Searching

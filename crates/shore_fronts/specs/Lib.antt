pub mod Barriers
pub mod Causes
pub mod Fronts
pub mod Pairs
pub mod Volumes

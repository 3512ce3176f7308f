pub mod Faults
pub mod Fronts
pub mod Pairs
pub mod Volumes

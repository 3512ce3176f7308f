pub mod Asks
pub mod Moments
pub mod Pairs
pub mod Stays
pub mod Told
pub mod WorkedCommit
pub mod Works

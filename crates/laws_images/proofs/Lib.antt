pub mod Left
pub mod Paths
pub mod LeftBehind
pub mod PathsBehind
pub mod Longer
pub mod InOrder
pub mod Joined
pub mod ManagersBeside

pub mod Granting
pub mod Grants
pub mod LetThrough
pub mod Nodes
pub mod Orderly
pub mod Tables
pub mod Tallies

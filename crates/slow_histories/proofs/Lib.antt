pub mod Beginnings
pub mod Places
pub mod Runs
pub mod TurnLemmas

pub mod Counted
mod ForceLemmas
pub mod Served

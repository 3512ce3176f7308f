pub mod Batches
pub mod Flushes

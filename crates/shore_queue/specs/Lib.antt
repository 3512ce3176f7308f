pub mod Names
pub mod Queues

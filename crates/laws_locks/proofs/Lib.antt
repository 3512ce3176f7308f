pub mod Held
pub mod Acquired
pub mod Places
pub mod Waiting

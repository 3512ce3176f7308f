pub mod Acquires
pub mod Intending
pub mod Judging
pub mod Needs
pub mod Restoring
pub mod Rooted
pub mod Walks

pub mod Acquires
pub mod CallLocks

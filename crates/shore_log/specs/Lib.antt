pub mod Indexes
pub mod Listed
pub mod PlainTails
pub mod Settled
pub mod Told

pub mod Comings
pub mod Logs
pub mod Moments
pub mod Trails
pub mod Worlds

pub mod Bounds
pub mod Contents
pub mod Heaps
pub mod Dirty
pub mod Maxima
pub mod Places
pub mod Scans

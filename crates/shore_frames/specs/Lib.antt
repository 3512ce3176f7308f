pub mod Places
pub mod Frames
pub mod LoggedRecords
pub mod Offsets
pub mod Reading
pub mod Rings
pub mod Streams

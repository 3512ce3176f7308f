pub mod FullPages
pub mod Geometries
pub mod MigratedLogs
pub mod Legs
pub mod Moments
pub mod Rooms
pub mod WorkedMigration

pub mod Slots
pub mod Room
pub mod Undo
pub mod Claims
pub mod Text
pub mod Writing
pub mod Reading
pub mod Layout

pub mod Numbers
pub mod Checks
pub mod Label
pub mod Anchor
pub mod Moves

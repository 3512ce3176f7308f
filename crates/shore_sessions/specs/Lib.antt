pub mod Calls
pub mod Waits
pub mod Controls
pub mod Seated
pub mod Standing
pub mod Noting
pub mod Checkpoints

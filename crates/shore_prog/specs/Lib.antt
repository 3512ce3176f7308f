pub mod Commands
pub mod Counted
pub mod Counting
pub mod Devices
pub mod Doing
pub mod Due
pub mod Served

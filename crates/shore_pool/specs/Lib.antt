pub mod Clocks
pub mod Changes
pub mod Frames
pub mod FrameMaps
pub mod Pages
pub mod UnderWay
pub mod Pools
pub mod Batches

pub mod Clients
pub mod HandedBack
pub mod Heard
pub mod Lives
pub mod NoCommits
pub mod Remains
pub mod Told
pub mod WorkedLife

mod Least
mod Sorting
pub mod TablesTaken
pub mod Costs
pub mod Listing

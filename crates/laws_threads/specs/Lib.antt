pub mod Amid
pub mod WorkedCommit

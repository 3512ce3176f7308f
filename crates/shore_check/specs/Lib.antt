pub mod Tables
pub mod Marks
pub mod Stages
pub mod Events

mod Joins
mod Paths

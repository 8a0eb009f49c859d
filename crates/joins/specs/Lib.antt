pub mod Joins
pub mod Pairs

pub mod Joins
pub mod Spines

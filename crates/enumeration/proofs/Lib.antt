pub mod Reducts
pub mod Searches

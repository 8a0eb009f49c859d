pub mod Tallies
pub mod Questions
pub mod Searching
pub mod Taken
pub mod Starting

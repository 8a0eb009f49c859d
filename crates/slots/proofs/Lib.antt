pub mod Counts
pub mod Strings
pub mod Replacing

pub mod Writers
pub mod Counts

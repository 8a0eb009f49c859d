pub mod Heads
pub mod Matches

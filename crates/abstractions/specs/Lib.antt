pub mod Bodies
pub mod Occurrences

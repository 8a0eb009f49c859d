pub mod Outcome
pub mod Writers

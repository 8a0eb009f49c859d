pub mod Decisions
pub mod Refutations

pub mod Deciding
pub mod Refuting

pub mod Reducts
pub mod Arguments

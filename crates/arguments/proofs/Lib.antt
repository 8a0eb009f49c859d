pub mod Applications
pub mod Arguments

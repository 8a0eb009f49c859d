pub mod Ways
pub mod Applications

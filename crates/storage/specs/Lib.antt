pub mod Storage
pub mod Steps

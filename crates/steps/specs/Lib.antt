pub mod Opening
pub mod Steps

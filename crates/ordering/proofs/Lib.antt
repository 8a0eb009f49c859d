pub mod Forcing
pub mod Ordering

pub mod Forwarding
pub mod Ordering
pub mod Repeated

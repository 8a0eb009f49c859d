pub mod Heads
pub mod Stored
pub mod Locals
pub mod Moves
pub mod State

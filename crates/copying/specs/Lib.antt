pub mod Equality
pub mod Moves

pub mod Holes
pub mod Copies
pub mod Wholes

pub mod Replacing
pub mod Wholes

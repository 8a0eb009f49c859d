pub mod Highest
pub mod Heights

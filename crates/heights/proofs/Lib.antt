pub mod Highest
pub mod Heights
pub mod Rows

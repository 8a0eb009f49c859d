pub mod Collected
pub mod Searched
pub mod Choosing

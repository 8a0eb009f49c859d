pub mod Stores
pub mod Storing
pub mod Writers

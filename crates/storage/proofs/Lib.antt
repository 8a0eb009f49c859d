pub mod Tables
pub mod Judges
pub mod Storing

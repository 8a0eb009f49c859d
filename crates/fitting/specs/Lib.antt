pub mod Fitting
pub mod Steps

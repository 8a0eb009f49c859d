pub mod Contraction
pub mod Values
pub mod Sweeps

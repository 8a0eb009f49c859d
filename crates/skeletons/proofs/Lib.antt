pub mod Contractions
pub mod Tests
pub mod Writing
pub mod Comparison
pub mod Applying

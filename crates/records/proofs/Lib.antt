pub mod Record
pub mod Parts
pub mod Passing
pub mod Tests
pub mod Slices
pub mod Checks
pub mod Options

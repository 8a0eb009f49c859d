pub mod Record
pub mod Parts
pub mod Tests
pub mod Checks

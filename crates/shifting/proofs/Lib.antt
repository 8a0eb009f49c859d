pub mod Slices
pub mod Tests
pub mod Locals
pub mod Lowering

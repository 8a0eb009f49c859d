pub mod Records
pub mod Keeping
pub mod Causes
pub mod Law

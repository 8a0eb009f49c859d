pub mod Rules
pub mod Parts
pub mod Determined
pub mod Numbers

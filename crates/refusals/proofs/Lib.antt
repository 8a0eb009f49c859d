pub mod Judging
pub mod Clearing
pub mod Numbers
pub mod Passing

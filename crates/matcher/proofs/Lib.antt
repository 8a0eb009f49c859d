pub mod Listed
pub mod Determined
pub mod Cases

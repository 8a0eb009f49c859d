pub mod Places
pub mod Rules
pub mod Pairs

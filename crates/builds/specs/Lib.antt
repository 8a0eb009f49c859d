pub mod Builds
pub mod Choices

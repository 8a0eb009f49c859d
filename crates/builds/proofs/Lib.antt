pub mod Pushing
pub mod Building
pub mod Planning
pub mod Solutions

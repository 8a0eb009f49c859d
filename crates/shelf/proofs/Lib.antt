pub mod Judges
pub mod Answers
pub mod Determined

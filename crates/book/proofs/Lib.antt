pub mod Judges
pub mod Answers
pub mod Used
pub mod Recipes
pub mod Determined

pub mod Judges
pub mod Forms
pub mod Answers
pub mod Determined
pub mod Recipes
pub mod Cases

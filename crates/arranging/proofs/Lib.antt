pub mod Arranging
pub mod Comparing
pub mod Laying
pub mod Merging
pub mod Sorting

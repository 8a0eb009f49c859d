pub mod FitTable
pub mod Steps

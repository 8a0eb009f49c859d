pub mod Entries
pub mod Sides
pub mod LineZero
pub mod Listings
pub mod Matches
pub mod Forms
pub mod Determined
pub mod Numbers

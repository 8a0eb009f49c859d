pub mod Listings
pub mod Rooms
pub mod Texts

pub mod Arranged
pub mod Laying
pub mod Order

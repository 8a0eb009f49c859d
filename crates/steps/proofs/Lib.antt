pub mod Descents
pub mod Leaves
pub mod Opening

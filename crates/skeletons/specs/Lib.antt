pub mod Skeleton
pub mod Contracted
pub mod Compared

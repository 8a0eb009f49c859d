pub mod Agreement
pub mod Frame
pub mod Targets
pub mod Lacking
pub mod Missing
pub mod Ranges

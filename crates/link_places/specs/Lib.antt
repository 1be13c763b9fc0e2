pub mod Segments
pub mod Bounds
pub mod Placed

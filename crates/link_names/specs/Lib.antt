pub mod Flags
pub mod Bounds
pub mod Named

pub mod FirstRefused
pub mod Bounds
pub mod ObjectsPass

pub mod ByName
pub mod Twice

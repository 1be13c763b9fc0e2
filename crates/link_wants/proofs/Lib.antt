pub mod Leasts
pub mod Sonames

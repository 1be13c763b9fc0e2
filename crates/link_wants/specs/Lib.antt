pub mod Least
pub mod Wants

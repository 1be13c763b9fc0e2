pub mod Compared
pub mod Held
pub mod Prefix
pub mod Taken
pub mod ToLimit

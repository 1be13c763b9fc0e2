pub mod Clearing
pub mod Marked
pub mod Keys

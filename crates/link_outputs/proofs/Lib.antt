pub mod Digits
pub mod First
pub mod Outputs
pub mod Once
pub mod Grouping
pub mod Keys
pub mod Kept

pub mod Noted
pub mod Found

pub mod Any
pub mod Source
pub mod Unread

pub mod Rounded
pub mod OfLayout

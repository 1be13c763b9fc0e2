pub mod Stable
pub mod AllFilled

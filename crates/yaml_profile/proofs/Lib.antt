pub mod Readings
pub mod Offsets
pub mod PrintedBytes
pub mod PlainBack
pub mod SingleBack
pub mod DoubleBack
pub mod OneToken
pub mod InTexts

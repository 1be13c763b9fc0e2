pub mod FirstByte
pub mod Numerals
pub mod Range

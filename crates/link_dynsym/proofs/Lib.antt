pub mod AllRows
pub mod CommonSizes
pub mod Numbers
pub mod TableBytes
pub mod Turns

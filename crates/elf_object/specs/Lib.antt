pub mod Record
pub mod Printed
pub mod Parts
pub mod Sections
pub mod Symbols
pub mod Groups
pub mod References
pub mod Object

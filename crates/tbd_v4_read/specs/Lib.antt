pub mod Keys
pub mod Values
pub mod Faults
pub mod Library
pub mod Text

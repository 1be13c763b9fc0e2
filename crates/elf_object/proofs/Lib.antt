pub mod Division
pub mod Range
pub mod Search
pub mod Tables
pub mod Lying
pub mod Room

pub mod Pairs
pub mod Tables
pub mod Passes
pub mod Whole
pub mod Beside

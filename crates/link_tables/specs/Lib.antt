pub mod Capped
pub mod States
pub mod Filled
pub mod Fills
pub mod Names
pub mod Counts
pub mod Sections

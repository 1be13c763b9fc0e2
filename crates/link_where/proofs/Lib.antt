pub mod Found
pub mod Ending
pub mod Tabled
pub mod ByName

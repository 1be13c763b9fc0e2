pub mod First
pub mod Runs
pub mod Sorting
pub mod Greatest

pub mod Next
pub mod Standing
pub mod Whole

pub mod AllRows
pub mod Counted
pub mod Ends
pub mod Executed

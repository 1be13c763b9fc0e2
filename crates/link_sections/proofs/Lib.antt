pub mod AllRows
pub mod Alone
pub mod Named
pub mod Turns

mod Proper
mod Ascending
pub mod Runs
pub mod Sorting

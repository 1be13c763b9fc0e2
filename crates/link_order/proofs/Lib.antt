pub mod Ascending
pub mod Numbered
pub mod InObject
pub mod InLink
pub mod Runs
pub mod Searched
pub mod Placed
pub mod Items
